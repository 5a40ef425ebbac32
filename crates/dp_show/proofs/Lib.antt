pub mod ApartLaws
pub mod ShowLaws
