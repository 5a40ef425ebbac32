pub mod Keeps
pub mod Coming
pub mod Giving
pub mod Waiting
