-- The list that foreach and filtereach go through.
pub mod Sources
