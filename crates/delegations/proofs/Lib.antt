-- Laws of delegations in a running session.
pub mod Delegating
pub mod Ending
