-- What only proofs speak of: how the code keeps a session's program, turns before they are made,
-- what is short enough for a packet, the writes that are kept, and what of a line is a
-- continuation. No public clause cites these.
pub mod Position
pub mod Places
pub mod Turns
pub mod Sizes
pub mod KeptWrites
pub mod Unseen
pub mod Departures
