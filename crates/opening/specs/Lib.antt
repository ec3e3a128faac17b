-- What a login answers, and what the beginning of a session asks.
pub mod Logins
pub mod Beginnings
