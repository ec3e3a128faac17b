-- An expression that is asked for.
pub mod Asking
