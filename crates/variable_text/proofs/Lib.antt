-- Laws of one text of variables, changed.
pub mod Weighing
