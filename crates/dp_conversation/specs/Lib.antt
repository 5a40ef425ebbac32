pub mod Deliveries
pub mod Folds
pub mod Growth
pub mod NextAnswer
pub mod Service
pub mod inner
