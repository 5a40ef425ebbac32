pub mod SessionLaws
pub mod StatusLaws
