mod GrownLists
pub mod NameLaws
mod PairedLists
mod Places
mod Walks
