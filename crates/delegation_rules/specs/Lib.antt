-- What a delegation names, by numbers, and the variables that `all` stands for.
pub mod Numbered
pub mod Asking
