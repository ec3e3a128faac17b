-- What the printing of a sheet asks.
pub mod Listing
