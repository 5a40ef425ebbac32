pub mod Loans
pub mod Past
pub mod Stands
pub mod Written
pub mod inner
