-- Why a command is refused, in the words of document 01.
pub mod Refusals
