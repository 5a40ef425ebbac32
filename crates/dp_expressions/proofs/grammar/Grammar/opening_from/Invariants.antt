use Rattle.std.proofs.Common.{◌≡◌, ◌-◌, []}
use Rattle.dp_token_rules.specs.inner.Input.{closed, until}
use Rattle.dp_expressions.specs.inner.Readers.{opening_step, below}
use Rattle.dp_expressions.proofs.grammar.Grammar.opening_from.Given as goal

abbrev pub invariant-loop-turn : goal.invariant-loop-turn
invariant-loop-turn g l =
    closed (opening_step l.self (below l.self) l.name) [] l.fn.tokens ≡ until
    (opening_step l.self (below l.self) l.name) (l._turn-end - l._turn) l.state l.tokens
