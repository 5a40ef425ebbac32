use Rattle.std.proofs.Common.{◌≡◌, ◌-◌}
use Rattle.dp_token_rules.specs.inner.Input.{closed, until}
use Rattle.dp_parse.specs.inner.Within.{within}
use Rattle.dp_parse.specs.inner.StatementRules.{arms_step}
use Rattle.dp_parse.proofs.grammar.Statements.arms.Given as goal

abbrev pub invariant-loop-turn : goal.invariant-loop-turn
invariant-loop-turn g l =
    closed (within arms_step l.self) l.fn.first l.fn.tokens ≡ until (within arms_step l.self)
    (l._turn-end - l._turn) l.state l.tokens
