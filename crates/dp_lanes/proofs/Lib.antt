pub mod DigitLaws
pub mod RestLaws
pub mod StreamLaws
pub mod LaneLaws
pub mod PassedLaws
pub mod GoodLaws
