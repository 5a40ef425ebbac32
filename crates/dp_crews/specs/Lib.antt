-- How a gate stands is said by Gates; how sessions are counted, by Tallies; what the workers leave
-- that serve a gate's links, by Workers and Tasks; what all of them leave, by Relays.
pub mod Gates
pub mod Tallies
pub mod Workers
pub mod Tasks
pub mod Twins
pub mod Relays
pub mod Bounds
pub mod Summaries
pub mod inner
