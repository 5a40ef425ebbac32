-- What the functions inside the crate find: what their own clauses say. No clause of a public call
-- speaks of it.
pub mod Items
pub mod Additions
pub mod Keyed
pub mod Lines
pub mod Longer
