-- Laws of cut fields and of decimal numbers.
pub mod Cuts
pub mod Decimals
