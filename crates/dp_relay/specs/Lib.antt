-- How the two ends of a link stand is said by Ends; what a lane's run leaves, by LaneRuns; what the
-- service of an engine leaves, by Engines; what is read of an IDE that asks, by Asked, and what its
-- registration leaves, by Registrations.
pub mod Ends
pub mod LaneRuns
pub mod Engines
pub mod Asked
pub mod Registrations
pub mod inner
