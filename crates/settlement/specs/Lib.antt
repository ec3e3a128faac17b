-- What the commands set, append and local ask, and how they end.
pub mod Commands
