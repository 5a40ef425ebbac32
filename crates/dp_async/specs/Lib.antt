pub mod Listens
pub mod Heard
pub mod Served
pub mod Beside
pub mod inner
