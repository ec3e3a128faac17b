-- Laws of foreach and filtereach.
pub mod Weighing
pub mod Effects
pub mod Sessions
