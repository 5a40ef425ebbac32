use Rattle.std.proofs.Common.{◌≡◌, ◌-◌, []}
use Rattle.dp_token_rules.specs.inner.Input.{closed, until}
use Rattle.dp_parse.specs.inner.Within.{body}
use Rattle.dp_parse.specs.inner.StatementRules.{bodies_step}
use Rattle.dp_parse.proofs.grammar.Statements.bodies.Given as goal

abbrev pub invariant-loop-turn : goal.invariant-loop-turn
invariant-loop-turn g l =
    closed (bodies_step (body l.self.0 l.loops)) [] l.fn.tokens ≡ until (bodies_step (body l.self.0 l.loops))
    (l._turn-end - l._turn) l.state l.tokens
