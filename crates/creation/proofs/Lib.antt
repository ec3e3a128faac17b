-- Laws of one principal more, and of what is delegated to it.
pub mod OtherPrincipals
pub mod Adding
pub mod Giving
