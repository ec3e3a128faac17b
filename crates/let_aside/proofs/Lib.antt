-- Laws of a copy.
pub mod Copies
