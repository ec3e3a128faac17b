-- Laws of the list that foreach and filtereach go through.
pub mod Sourcing
pub mod Denying
