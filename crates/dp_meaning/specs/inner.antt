-- What the evaluator's own functions say: a run up to a stop, what it goes by, what falls from call
-- to call, and what a write answers in its parts. No clause of a public call speaks of it.
pub mod WriteAnswers
pub mod Drive
pub mod Evaluation
pub mod Sizes
