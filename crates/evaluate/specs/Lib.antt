-- A record that is written field by field, and the room that is lent to write a value in.
pub mod Drafts
