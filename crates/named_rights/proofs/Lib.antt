pub mod Places
pub mod Few
pub mod Chains
pub mod Everybody
