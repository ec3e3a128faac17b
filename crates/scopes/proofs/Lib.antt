-- Laws that belong to no one function: a name's value, and the locals with a name more or with fewer.
pub mod Defining
pub mod Naming
pub mod Bounds
