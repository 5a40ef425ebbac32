-- With which token tokens stop being the beginning of what a rule spells.
pub use Rattle.dp_grammar.specs.Refused.{IsViable, IsSpelled, IsDeadAt, IsUnexpected, IsTooDeep}
