-- What a command did, and the status that it prints.
pub mod Acts
