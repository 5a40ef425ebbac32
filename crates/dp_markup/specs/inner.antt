pub mod Input
pub mod Readers
pub mod Names
pub mod Search
