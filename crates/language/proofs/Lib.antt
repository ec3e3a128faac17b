-- Laws of the Bool tests and of `do` blocks
pub mod Logic
-- Laws of the state text
pub mod StateText
-- Laws of chains and denials
pub mod Rights
-- Commands and programs keep a state valid
pub mod Meaning
-- Laws of programs that parse
pub mod Parsing
-- Demand 3
pub mod Histories
-- The three demands together
pub mod Demanded
-- Names are not found out by trying logins
pub mod Enumeration
