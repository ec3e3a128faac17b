-- A principal that is created.
pub mod Creating
