-- How the words are read: what the functions inside the crate say. No clause of a public call
-- speaks of it.
pub mod Given
pub mod Shapes
pub mod Rows
