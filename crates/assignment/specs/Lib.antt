-- What an assignment asks, answers and grants.
pub mod Grants
pub mod Assignments
