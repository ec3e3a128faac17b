-- Laws that belong to no one function: refusals by their tests.
pub mod Refusals
