-- Laws of JSON with its commas, and of what is read for it.
pub mod Linking
pub mod Rendering
pub mod Elements
