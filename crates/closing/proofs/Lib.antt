-- Laws that belong to no one function: what is written at the end of a run.
pub mod Closings
