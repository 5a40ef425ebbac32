-- What the functions inside the crate do: what their own clauses say. No clause of a public call
-- speaks of it.
pub mod Parts
pub mod Declarations
pub mod Loans
pub mod Owners
pub mod Standing
pub mod OwnVariables
