-- Laws of lists that get more elements.
pub mod Extending
