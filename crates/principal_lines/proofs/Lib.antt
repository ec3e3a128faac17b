-- Laws of the principals of a state text.
pub mod OneLine
pub mod Ranks
