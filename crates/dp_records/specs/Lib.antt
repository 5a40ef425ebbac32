pub mod Records
pub mod Statuses
pub mod Behaviours
pub mod Verdicts
pub mod Tapes
pub mod inner
