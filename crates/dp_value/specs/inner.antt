-- How values are kept and told to the logic. No public clause cites these.
pub mod Codes
pub mod Sizes
pub mod Behind
pub mod Left
pub mod Rising
pub mod Kept
pub mod Rows
pub mod Inside
pub mod Falls
pub mod Writes
pub mod Removals
