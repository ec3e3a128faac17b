-- Laws of lines in a row.
pub mod Comments
pub mod Rows
