-- Laws that belong to no one function: the end of a program one of whose commands is refused.
pub mod Refusing
