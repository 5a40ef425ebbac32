pub mod MoreCommands
pub mod Outputs
pub mod WatchedRuns
pub mod Whole
pub mod ReplyLaws
pub mod PassingAnswers
pub mod OutputPieces
