pub mod formers
pub mod Builtins
pub mod Doubles
pub mod Purity
pub mod CodeLines
pub mod Files
pub mod FileNames
pub mod inner
