-- Commands and programs keep a state valid.
pub mod Prices
pub mod ValidValues
pub mod Standing
pub mod Adding
pub mod Stores
pub mod ValidCommands
pub mod Counting
-- logins that are right
pub mod Logins
pub mod ValidRuns
pub mod Sent
pub mod Weights
pub mod Printed
pub mod LineCounts
-- records whose fields are the same
pub mod SameFields
-- the rounded quotient
pub mod Rounding
