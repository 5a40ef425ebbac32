pub mod EngineLaws
pub mod HeadlineLaws
pub mod ActLaws
pub mod ChangeLaws
pub mod WorldLaws
pub mod TranscriptLaws
pub mod TallyLaws
