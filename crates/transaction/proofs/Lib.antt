-- Laws that belong to no one function: what a program that parses has, and the reply.
pub mod Programs
pub mod Replies
