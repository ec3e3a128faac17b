-- What an answer of the evaluation says of an expression.
pub mod Weighed
pub mod Results
