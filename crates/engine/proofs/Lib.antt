-- Laws of commands read from a program's text, and of a program that is under way.
pub mod Spoken
pub mod Stages
