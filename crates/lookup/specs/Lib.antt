-- What is asked of a name and of an expression in a running session.
pub mod Looks
pub mod Told
