-- The variables of a running program as texts.
pub mod Scopes
