-- What the functions open to the host answer to programs in other languages.
pub mod Wire
