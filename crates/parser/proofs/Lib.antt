-- Laws of whole programs.
pub mod Bodies
pub mod Firsts
