pub mod Frames
pub mod inner
pub mod Received
pub mod Places
