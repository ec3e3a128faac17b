-- Laws of what the beginning of an expression says of it.
pub mod Lets
