-- What the outcome of a reader of all tokens says of the rule.
use Rattle.dp_token_rules.specs.inner.Input.{Reader}
use Rattle.dp_grammar.proofs.Verdicts as all
use Rattle.dp_token_rules.proofs.Answers.{Rules, Stop, ends}
pub use Rattle.dp_grammar.proofs.Verdicts.{
  unexpected_spelled,
  too_deep_spelled,
  one_unexpected,
  one_too_deep,
  not_both,
  found,
  only,
  unexpected,
  too_deep,
  no_memory,
  all_found,
  all_unexpected,
  all_too_deep,
  one_tree,
}

-- The reader reads the rule within these limits, up to the end of the tokens.
abbrev pub ReadsAll : {L A : Type 0} → (L → L → Type 0) → Rules L A → Stop A → L → Reader A → Type 0
ReadsAll Above rule stop = all.ReadsAll Above rule (ends stop)
