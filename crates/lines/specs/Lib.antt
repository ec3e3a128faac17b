-- What the readers of one line answer, in the terms of the language.
pub mod Cuts
