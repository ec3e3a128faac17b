-- What is written.
pub mod Writing
