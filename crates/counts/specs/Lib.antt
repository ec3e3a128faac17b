-- Where a principal's count stands, and what it is.
pub mod Counted
