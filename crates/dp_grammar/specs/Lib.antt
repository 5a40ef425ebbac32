pub mod Rules
pub mod Refused
pub mod Exact
pub mod Parts
pub mod Texts
pub mod Lines
pub mod Prefixes
pub mod inner
