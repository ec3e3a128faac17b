-- What is known of a text once its login was read.
pub mod Admissions
