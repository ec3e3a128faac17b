-- What an answer says of the names that are evaluated, and of what comes of them.
pub mod Telling
