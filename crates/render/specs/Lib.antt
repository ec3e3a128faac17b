-- What is written: JSON from a value's text, and status lines.
pub mod Json
pub mod Lines
