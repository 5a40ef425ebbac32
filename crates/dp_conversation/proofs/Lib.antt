pub mod FrontLaws
pub mod ServiceLaws
pub mod CutLaws
pub mod EndLaws
pub mod GrowthLaws
pub mod NextAnswerLaws
pub mod AnswerAllLaws
