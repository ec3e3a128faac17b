-- Laws of whole lines.
pub mod FirstLine
pub mod Wholes
