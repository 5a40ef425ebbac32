pub mod Limits
pub mod Sent
pub mod inner
