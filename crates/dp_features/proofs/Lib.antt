pub mod Short
pub mod Ranges
