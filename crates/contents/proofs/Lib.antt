-- Laws of what stands in a record.
pub mod Tabs
pub mod Passwords
