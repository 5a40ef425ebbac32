pub mod Breaks
pub mod Counts
pub mod Looks
pub mod Quiet
pub mod Runs
