-- The assertions that stand, as numbers.
pub mod Asserting
pub mod Shapes
pub mod Known
