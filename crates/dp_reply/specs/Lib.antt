-- What is found in elements, the packets that they are, and the normal form of packets.
pub mod Contents
pub mod Verdict
pub mod Readings
pub mod Norm
