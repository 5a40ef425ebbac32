-- Begin with Headline. What its words mean: Engines, Transcript, and what they cite of dp_events,
-- dp_registry, dp_lanes and dp_proxy.
pub mod Headline
pub mod Alone
pub mod Engines
pub mod Transcript
pub mod Replays
pub mod Tallies
pub mod inner
