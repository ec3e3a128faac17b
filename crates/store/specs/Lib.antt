-- How records are kept as text, and where they stand.
pub mod Held
pub mod Rows
pub mod Scans
pub mod Contents
