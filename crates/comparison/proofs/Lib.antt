-- Laws of the fields of a record's text.
pub mod Fields
pub mod Sizes
pub mod Matches
pub mod Comparing
