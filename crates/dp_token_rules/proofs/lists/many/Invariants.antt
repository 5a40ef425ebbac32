use Rattle.std.proofs.Common.{◌≡◌, ◌-◌, []}
use Rattle.dp_token_rules.specs.inner.Input.{closed, until}
use Rattle.dp_token_rules.specs.Terminals.{is}
use Rattle.dp_token_rules.specs.inner.ListReaders.{many_step}
use Rattle.dp_token_rules.proofs.lists.many.Given as goal

abbrev pub invariant-loop-turn : goal.invariant-loop-turn
invariant-loop-turn g l =
    closed (many_step (is l.begin) (g.P.Piece.reads l.piece)) [] l.fn.tokens ≡ until
    (many_step (is l.begin) (g.P.Piece.reads l.piece)) (l._turn-end - l._turn) l.state l.tokens
