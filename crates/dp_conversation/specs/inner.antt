-- What only the proof of serving speaks of. No public clause cites these.
pub mod Exchanges
