-- Laws of values and of variables.
pub mod Values
pub mod Variables
