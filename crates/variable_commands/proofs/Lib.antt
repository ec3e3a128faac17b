-- Laws that belong to no one function: what a command says.
pub mod Spoken
