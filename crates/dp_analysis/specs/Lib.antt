pub mod Still
pub mod Quiet
pub mod Depth
pub mod inner
