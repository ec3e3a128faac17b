-- Laws of the list that is made.
pub mod Growing
pub mod Looping
