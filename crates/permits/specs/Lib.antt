-- What the crate's contracts cite.
pub mod Permits
pub mod Knowledge
