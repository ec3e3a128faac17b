-- Laws of the scanner and of the readers of one token.
pub mod Lexing
pub mod Reading
