-- Laws of the commands set, append and local.
pub mod Ending
