-- Laws that belong to no one function.
pub mod Splicing
pub mod Sliding
