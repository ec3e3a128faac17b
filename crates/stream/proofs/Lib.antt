-- Laws that belong to no one function: the last line of a stream, and its bytes in a buffer.
pub mod Streaming
