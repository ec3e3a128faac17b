-- The session of a running program in lent buffers (document 01, "A run": a program works on a copy).
pub mod Sessions
pub mod Endings
pub mod Layouts
