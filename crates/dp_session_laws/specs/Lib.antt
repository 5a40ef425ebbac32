pub mod AllOutput
pub mod Pieces
pub mod Shown
