-- Laws of runs, words and classes.
pub mod Classes
pub mod Runs
pub mod Words
