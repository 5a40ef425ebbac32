pub mod Statements
pub mod Limits
pub mod Programs
pub mod ExpressionIn
pub mod NextCode
pub mod inner
