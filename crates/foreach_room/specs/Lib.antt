-- What an expression without `let` is.
pub mod Terms
