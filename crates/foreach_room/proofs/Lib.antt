-- Laws of the room in which elements are tried.
pub mod Aside
