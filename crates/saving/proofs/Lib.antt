-- Laws of a state text that is written from a session's parts.
pub mod Meant
pub mod Lines
pub mod Rooms
pub mod Behind
pub mod Raising
