-- What a list is extended with.
pub mod Extensions
