-- What the crate's types mean in the terms of the language.
pub mod Tokens
pub mod Readers
