-- Laws of frames: what they make of a value, and where they stand.
pub mod Unwinding
pub mod Passing
pub mod Counting
pub mod Nesting
pub mod Stepping
pub mod Bindings
pub mod Sunken
pub mod Returning
pub mod Leaving
pub mod Starting
