-- Request M-106: the evaluation of an expression with `let`, without recursion.
pub mod Frames
pub mod Reaching
pub mod Standing
pub mod Giving
