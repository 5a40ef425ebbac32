pub mod Times
pub mod Keeps
pub mod Entered
