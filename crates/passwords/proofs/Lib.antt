-- Laws of a changed password.
pub mod Weighing
pub mod Passwords
