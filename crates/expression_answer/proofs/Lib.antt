-- Laws of an expression that is asked for.
pub mod Meant
