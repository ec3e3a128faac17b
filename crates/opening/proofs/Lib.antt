-- Laws of the start of a run.
pub mod Senders
pub mod Copies
pub mod Checks
