-- Laws of the Bool tests, of `do` blocks, of lists and of integers.
pub mod Tests
pub mod Outcomes
pub mod Giving
pub mod Lists
pub mod Integers
