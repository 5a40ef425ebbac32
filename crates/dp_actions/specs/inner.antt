-- What only proofs speak of. No public clause cites these.
pub mod Bases
pub mod Keyed
pub mod Missing
pub mod StatementParts
