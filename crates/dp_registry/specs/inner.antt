-- How the registry keeps what its journal says. No clause of a public call speaks of it.
pub mod Tables
pub mod Kept
pub mod Answered
