-- Laws that belong to no one function: refusals by their tests, and the question on a checked state.
pub mod Refusals
pub mod Settling
