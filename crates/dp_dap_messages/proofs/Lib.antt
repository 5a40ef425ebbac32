pub mod ArgumentLaws
pub mod NulLaws
pub mod MessageLaws
