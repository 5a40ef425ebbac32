pub mod Terminals
pub mod Lines
pub mod Rules
pub mod TokenValues
pub mod Lists
pub mod Refused
pub mod inner
