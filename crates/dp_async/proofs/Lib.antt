pub mod Standings
pub mod Turns
pub mod Departures
pub mod Limits
pub mod Waits
pub mod Closings
pub mod Reading
pub mod Attending
