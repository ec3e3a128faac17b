-- Laws of assignments on a running session.
pub mod Granting
pub mod Assigning
