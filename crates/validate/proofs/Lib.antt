-- Laws of the parts of a state text.
pub mod Vars
pub mod Whole
pub mod Verdicts
pub mod Heads
pub mod States
