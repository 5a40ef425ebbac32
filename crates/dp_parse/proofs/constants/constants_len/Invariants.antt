use Rattle.std.proofs.Common.{◌≡◌, ◌+◌, false, length}
use Rattle.dp_parse.specs.inner.StatementRules.{constants_len}
use Rattle.dp_parse.proofs.constants.constants_len.Given as goal

-- those that were passed and those that are still to come are all
abbrev pub invariant-loop-at : goal.invariant-loop-at
invariant-loop-at l =
    (l.at + constants_len l.is_named l.rest ≡ constants_len false l.tokens) × (l.at + length l.rest ≡ length l.tokens)
