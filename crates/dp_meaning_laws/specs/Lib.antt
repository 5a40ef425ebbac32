pub mod Past
pub mod Coded
pub mod Limits
