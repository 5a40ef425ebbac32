-- With which byte bytes stop being the beginning of a text.
pub use Rattle.dp_grammar.specs.Refused.{
  IsViable,
  IsSpelled,
  IsDeadAt,
  IsUnexpected as IsFirstBad,
  IsTooDeep as IsFirstTooDeep,
}
