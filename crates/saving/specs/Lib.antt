-- A store whose parts stand in lent slices, as the lines of a state text are written from them.
pub mod Stores
