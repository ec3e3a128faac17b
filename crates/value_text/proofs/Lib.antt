-- Laws of writing.
pub mod Pieces
