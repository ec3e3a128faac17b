-- Laws of the elements that are compared.
pub mod Said
pub mod Weighed
