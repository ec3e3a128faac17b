-- Laws that belong to no one function.
pub mod Found
pub mod Labels
pub mod Drafting
pub mod Spelling
pub mod Fieldwise
pub mod Turning
pub mod Calling
pub mod Comparing
