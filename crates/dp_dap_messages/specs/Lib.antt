pub mod Table
pub mod Arguments
pub mod Lines
pub mod Values
pub mod Messages
pub mod inner
