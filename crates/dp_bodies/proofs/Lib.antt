pub mod HeadLaws
pub mod FrameLaws
