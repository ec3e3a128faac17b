-- Laws of the state text.
pub mod Names
pub mod Shape
pub mod Lines
pub mod Digits
pub mod Clean
pub mod RoundTrip
pub mod Formers
pub mod Least
pub mod Bound
