-- How a splitter of packets reads a length. No public clause cites these.
pub mod Lengths
