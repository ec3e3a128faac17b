-- What filtereach asks.
pub mod Asked
