pub mod Made
pub mod Desks
pub mod Turns
