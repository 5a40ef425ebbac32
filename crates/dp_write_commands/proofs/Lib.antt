pub mod Sizes
pub mod MadeWrites
pub mod RequestedWrites
pub mod Sent
