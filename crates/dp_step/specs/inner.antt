-- Definitions that proofs alone use.
pub mod Moves
pub mod Shallow
pub mod Leaps
pub mod Apart
pub mod Passing
pub mod Innermost
pub mod Tests
