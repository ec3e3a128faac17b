-- Laws of what becomes of an element.
pub mod Drafting
pub mod Settling
pub mod Joining
