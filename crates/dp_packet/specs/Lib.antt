-- What packets are as elements, and their texts.
pub mod Parts
pub mod Properties
pub mod Breakpoints
pub mod Messages
pub mod Packets
pub mod Text
pub mod Uris
pub mod Sizes
pub mod inner
