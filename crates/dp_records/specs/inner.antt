-- What the functions inside the crate say of themselves. No clause of a public call speaks of it.
pub mod Readings
pub mod Balances
pub mod Turns
pub mod Audits
pub mod Tapings
