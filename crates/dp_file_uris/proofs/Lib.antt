pub mod FoundFiles
pub mod Uris
