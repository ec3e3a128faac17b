-- Laws that belong to no one function: the end of a run.
pub mod Closings
