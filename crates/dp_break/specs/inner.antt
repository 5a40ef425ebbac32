-- What the functions inside the crate do: what their own clauses say. No clause of a public call
-- speaks of it.
pub mod Marks
pub mod Causes
pub mod Meant
pub mod LineSizes
pub mod Numbers
