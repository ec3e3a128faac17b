-- How a program's commands end.
pub mod Ends
