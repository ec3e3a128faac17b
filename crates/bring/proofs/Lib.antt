-- Laws that belong to no one function.
pub mod Brought
pub mod Refused
pub mod Copying
