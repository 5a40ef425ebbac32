pub mod Sizes
pub mod Limited
pub mod Sent
