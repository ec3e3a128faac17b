-- What the checks of a state text answer.
pub mod Shared
pub mod Checked
pub mod Body
