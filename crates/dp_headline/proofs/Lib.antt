pub mod Adapted
pub mod Listened
