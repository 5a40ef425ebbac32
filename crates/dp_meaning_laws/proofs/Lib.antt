pub mod PastLaws
pub mod Whole
pub mod CodedMoments
pub mod Ample
pub mod AmpleLaws
pub mod Answers
