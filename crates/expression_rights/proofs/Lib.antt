-- Laws of the names that stand in an expression, and of its terms in the text.
pub mod Within
pub mod Terms
pub mod Asking
