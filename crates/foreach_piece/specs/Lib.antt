-- What becomes of an element.
pub mod Ways
pub mod Drafts
