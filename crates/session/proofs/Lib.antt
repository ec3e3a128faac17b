-- Laws of a running program's session.
pub mod Steps
pub mod Scoping
pub mod PrincipalsText
pub mod Room
pub mod Admin
pub mod Denials
pub mod Finding
pub mod Changes
pub mod Weighed
