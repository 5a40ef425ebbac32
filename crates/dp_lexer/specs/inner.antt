-- Definitions that only the steps of the proof use. No clause of what lib.rt gives out cites them.
pub mod Lexer
pub mod Lexed
