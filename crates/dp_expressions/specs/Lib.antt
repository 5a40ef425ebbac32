pub mod Grammar
pub mod Longest
pub mod inner
