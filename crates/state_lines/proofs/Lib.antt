-- Laws of lines from their parts, and of the zeros after a text.
pub mod Lines
pub mod Zeros
