-- Laws of the reading of a price.
pub mod Readings
