pub mod FrameLaws
pub mod LengthLaws
pub mod NextLaws
pub mod PacketLaws
pub mod SplitLaws
