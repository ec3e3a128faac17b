-- Laws that belong to no one function: a name's right, the names that an expression evaluates, and what is known of its terms.
pub mod Permission
pub mod Readers
pub mod Knowing
