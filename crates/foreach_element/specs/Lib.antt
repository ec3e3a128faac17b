-- The session in which an element is tried.
pub mod Turning
