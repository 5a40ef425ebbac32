use Rattle.std.proofs.Common.{◌≡◌, ◌-◌}
use Rattle.dp_token_rules.specs.inner.Input.{closed, until}
use Rattle.dp_parse.specs.Limits.{limits}
use Rattle.dp_parse.specs.Statements.{no_parts}
use Rattle.dp_parse.specs.inner.StatementRules.{file_step}
use Rattle.dp_parse.proofs.files.file.Given as goal

abbrev pub invariant-loop-turn : goal.invariant-loop-turn
invariant-loop-turn l =
    closed (file_step limits) no_parts l.fn.tokens ≡ until (file_step limits) (l._turn-end - l._turn) l.state l.tokens
