-- Why packets that are written are read again.
pub mod Levels
pub mod Whole
pub mod Leaves
pub mod Declaration
pub mod Law
pub mod Nodes
pub mod Lines
pub mod Values
pub mod Bodies
