-- How a run is closed.
pub mod Closed
