-- What fits 64 bits
pub mod Fitting
-- A cut quotient and the rounded one
pub mod Quotients
