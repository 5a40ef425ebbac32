-- What the functions inside the crate say of themselves. No clause of a public call speaks of it.
pub mod Crews
pub mod Accounts
pub mod Hires
pub mod Crewed
