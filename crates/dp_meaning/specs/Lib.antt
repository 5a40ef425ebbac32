pub mod Programs
pub mod Writes
pub mod Trace
pub mod Stops
pub mod Pure
pub mod Unwatched
pub mod Whole
pub mod inner
