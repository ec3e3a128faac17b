-- What the readers of values and variables answer.
pub mod Values
