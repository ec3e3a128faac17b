-- Laws of records read one after the other, and of fields.
pub mod Opening
pub mod Follow
pub mod Sorts
pub mod Indexing
pub mod Labels
