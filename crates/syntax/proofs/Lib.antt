-- Laws of the readers of the fields of a record and of expressions, and of what a text says.
pub mod Fuel
pub mod Fields
pub mod Lets
pub mod Said
