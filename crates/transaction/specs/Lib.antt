-- What is known of a program whose login is right.
pub mod Admitted
