-- What an operand is to a comparison, and what a comparison comes to.
pub mod Elements
