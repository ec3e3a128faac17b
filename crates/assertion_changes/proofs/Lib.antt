-- Laws of assertions entered and withdrawn.
pub mod FromStart
pub mod Lists
pub mod Changes
