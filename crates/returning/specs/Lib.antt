-- What the ending `return e` gives.
pub mod Returns
