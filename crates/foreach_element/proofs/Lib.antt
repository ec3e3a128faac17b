-- Laws of the session in which an element is tried.
pub mod Lasting
