pub mod Grants
pub mod AssertionLists
