pub mod TreeStill
pub mod TreeQuiet
pub mod LoudLaws
