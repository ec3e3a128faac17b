-- The list that is made.
pub mod Lists
