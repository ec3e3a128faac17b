-- The text of a record.
pub mod Records
