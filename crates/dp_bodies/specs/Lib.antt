pub mod Frames
pub mod Received
pub mod Requests
pub mod Texts
pub mod inner
