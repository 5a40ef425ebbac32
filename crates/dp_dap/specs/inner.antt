pub mod Effects
pub mod Exchanges
