-- What is delegated, for each of some variables.
pub mod Delegates
