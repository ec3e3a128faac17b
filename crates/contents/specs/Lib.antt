-- What stands in a record.
pub mod Contents
