-- Whole programs on a running session: document 01, "A run".
pub mod Commands
