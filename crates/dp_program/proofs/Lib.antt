pub mod GrownNames
pub mod RunLaws
