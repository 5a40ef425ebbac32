-- What only proofs use. No clause of the top call cites these.
pub mod BadLines
pub mod Attended
pub mod Dialled
pub mod Gated
pub mod Gateways
pub mod Carried
pub mod Completeness
pub mod Kept
pub mod Proxied
pub mod Recorded
pub mod Sessions
pub mod EventLists
