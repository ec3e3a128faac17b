-- What a function comes to.
pub mod Applied
