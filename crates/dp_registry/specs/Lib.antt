pub mod Journal
pub mod Verdicts
pub mod Legal
pub mod inner
