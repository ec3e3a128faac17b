-- The variables of one text, and what becomes of them.
pub mod Puts
