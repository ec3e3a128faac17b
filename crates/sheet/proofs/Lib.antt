-- Laws that belong to no one function: refusals by their tests, and the printing on a checked state.
pub mod Refusals
pub mod Printing
