-- The locals of a session, where a `let` is asked for.
pub mod Aside
