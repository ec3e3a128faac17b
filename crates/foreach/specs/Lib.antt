-- What foreach asks.
pub mod Asked
