-- The sizes of names and of properties, as the functions inside the crate count them. No clause of
-- a public call speaks of it.
pub mod Sizes
pub mod AtPaths
