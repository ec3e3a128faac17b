pub mod Passing
pub mod Rounding
pub mod Searching
pub mod Answers
