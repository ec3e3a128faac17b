-- Laws that belong to no one function: refusals by their tests, and a fresh state's text.
pub mod Refusals
pub mod Texts
