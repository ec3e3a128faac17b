-- Laws that belong to no one function.
pub mod Saying
pub mod Lookups
