-- Laws of answers of the evaluation.
pub mod Weighing
pub mod Putting
