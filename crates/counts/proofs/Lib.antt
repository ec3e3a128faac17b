-- Laws of a principal's count.
pub mod Reading
