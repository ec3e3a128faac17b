-- Laws of a value's text, of the places in it, and of its weight.
pub mod Texts
pub mod Standing
pub mod Lines
pub mod Searching
pub mod Listing
pub mod Weighing
