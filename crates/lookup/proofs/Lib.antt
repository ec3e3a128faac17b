-- Laws of what a running session says of a name and of an expression.
pub mod Looking
pub mod Saying
pub mod LightNames
