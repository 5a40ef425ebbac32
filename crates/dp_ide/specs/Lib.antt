pub mod Scripts
pub mod Messages
pub mod Instructions
pub mod Plays
pub mod inner
