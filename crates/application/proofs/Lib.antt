-- Laws of what a function comes to.
pub mod Heavier
