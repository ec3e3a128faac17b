-- What foreach and filtereach ask.
pub mod Each
