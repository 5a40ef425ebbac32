pub mod Words
pub mod Plain
pub mod Commands
pub mod inner
