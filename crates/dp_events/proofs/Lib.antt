pub mod HexLaws
pub mod WordLaws
pub mod SpellingLaws
pub mod ListLaws
pub mod SoakLaws
