-- What only the proof of serving speaks of. No public clause cites these.
pub mod Standing
pub mod Reading
