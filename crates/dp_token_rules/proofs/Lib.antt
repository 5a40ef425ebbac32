pub mod Terminals
pub mod Answers
pub mod Loops
pub mod Readers
pub mod ListAnswers
pub mod More
pub mod TakenTokens
pub mod Verdicts
