pub mod EndLaws
pub mod RunLaws
pub mod EngineLaws
pub mod ReadLaws
pub mod AnswerLaws
pub mod ServeLaws
pub mod MadeLaws
