-- A value's text, what stands at a place of it, and what the functions answer.
pub mod Encoding
pub mod Places
pub mod Answers
pub mod Breaks
