-- Laws of a principal created.
pub mod Creating
