pub mod Boards
pub mod Pushing
