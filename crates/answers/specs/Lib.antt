-- What an answer to the host says, in the words of document 01.
pub mod Answers
