-- The definitions of document 01 and of the requests that change it, each file a subject. Nothing else has to be believed.
-- Texts and lists
pub mod Text
-- "Program text"
pub mod Bytes
pub mod Identifiers
pub mod Syntax
pub mod Tokens
pub mod Grammar
pub mod Programs
-- "State text" and "Weight"
pub mod State
pub mod Weight
pub mod Valid
pub mod Encode
pub mod Decode
-- the former lines of a state text, request M-101
pub mod Former
-- "Chains"
pub mod Chains
-- "Values" and "Commands"
pub mod Values
pub mod Outcomes
-- prices, request M-104
pub mod Prices
pub mod Functions
pub mod Expressions
pub mod Output
pub mod Commands
-- the sheet of a shared variable, request M-102
pub mod Sheet
-- "A run" and "Who gets which number"
pub mod Run
pub mod Calls
-- "The book of demand 3"
pub mod Events
pub mod History
-- The three demands together
pub mod Demands
-- names are not found out by trying logins, request M-105
pub mod Enumeration
