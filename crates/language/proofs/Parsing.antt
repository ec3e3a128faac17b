-- Laws of programs that parse.
pub mod ValidPrograms
pub mod Lexing
pub mod Readers
pub mod Reading
pub mod Parsing
pub mod Printing
