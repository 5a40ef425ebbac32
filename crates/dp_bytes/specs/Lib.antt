pub mod formers
pub mod Names
pub mod IntText
pub mod Decimals
pub mod Quotes
pub mod inner
