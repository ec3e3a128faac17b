-- Laws of exit and of the default delegator.
pub mod Naming
