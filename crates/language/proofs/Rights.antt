-- Laws of chains and denials.
pub mod Search
pub mod Denial
