-- Laws of the functions on strings.
pub mod Bytewise
