-- What the functions inside the crate say of themselves. No clause of a public call speaks of it.
pub mod Turns
pub mod Openings
pub mod Reading
pub mod Replying
