-- Laws that belong to no one function: the end of a text by its login.
pub mod Programs
