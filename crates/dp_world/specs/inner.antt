-- What only the proof of a replay speaks of. No public clause cites these.
pub mod EngineStates
pub mod LentSessions
pub mod KeptLinks
pub mod Changes
pub mod LinkLines
pub mod LinkTallies
