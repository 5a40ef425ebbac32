pub mod Polls
pub mod Arrivals
pub mod Posts
pub mod Posted
pub mod Turns
pub mod inner
