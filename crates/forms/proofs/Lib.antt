-- Laws of what several commands have in common.
pub mod Phrases
