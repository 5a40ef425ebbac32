pub mod Known
pub mod Answers
pub mod Dap
pub mod Service
pub mod inner
