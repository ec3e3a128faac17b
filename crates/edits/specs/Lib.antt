-- What the changes ask and leave.
pub mod Changes
