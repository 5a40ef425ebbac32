-- How the code comes to what it answers. No clause of a public call speaks of it.
pub mod Writes
