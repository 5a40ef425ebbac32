pub mod Delivered
pub mod Looks
