pub mod Lines
pub mod Leads
pub mod Effects
pub mod Shown
