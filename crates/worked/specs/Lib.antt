-- Worked values of document 01 and of the change requests, computed from the definitions.
pub mod Sessions
pub mod Starred
pub mod Turns
pub mod Texts
pub mod Limits
pub mod Functions
pub mod Counts
pub mod Sheets
pub mod Searches
pub mod Prices
pub mod Logins
pub mod Comparisons
pub mod Filters
pub mod Lets
