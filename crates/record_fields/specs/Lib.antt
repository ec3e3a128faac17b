-- What the readers of the state text answer.
pub mod Sections
pub mod Entering
