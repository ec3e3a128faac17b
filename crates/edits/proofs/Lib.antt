-- Laws that belong to no one function.
pub mod Rewriting
pub mod Putting
pub mod Adding
pub mod PasswordChanges
