-- What the readers of the principals answer.
pub mod Listed
pub mod Principals
