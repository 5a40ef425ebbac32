pub mod Bundles
pub mod inner
