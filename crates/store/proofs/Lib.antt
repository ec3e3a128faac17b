-- Laws that belong to no one function.
pub mod Records
pub mod Positions
pub mod Lookups
pub mod Holders
pub mod Answers
pub mod Places
pub mod Hashes
pub mod NameWeights
