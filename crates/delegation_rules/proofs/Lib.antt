-- Laws of what a delegation names, and of who may send it.
pub mod Places
pub mod Gathering
pub mod Denials
pub mod Existing
pub mod Fitting
