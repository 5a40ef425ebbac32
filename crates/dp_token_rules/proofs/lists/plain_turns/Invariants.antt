use Rattle.std.proofs.Common.{◌≡◌, ◌-◌}
use Rattle.dp_token_rules.specs.inner.Input.{closed, until}
use Rattle.dp_token_rules.specs.inner.ListReaders.{plain_step}
use Rattle.dp_token_rules.proofs.lists.plain_turns.Given as goal

abbrev pub invariant-loop-turn : goal.invariant-loop-turn
invariant-loop-turn g l =
    closed (plain_step (λ _. g.P.Piece.reads l.item) l.close) l.fn.first l.fn.tokens ≡ until
    (plain_step (λ _. g.P.Piece.reads l.item) l.close) (l._turn-end - l._turn) l.state l.tokens
