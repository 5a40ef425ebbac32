use Rattle.std.proofs.Common.{sym, ◌∙◌}
use Rattle.dp_actions.proofs.Texts.{joins, joins-not}
use Rattle.dp_actions.proofs.joins.joined_with.Goals as goal

pub returns-then-is_beyond : goal.returns-then-is_beyond
returns-then-is_beyond c =
    rw c.fatal.ensures (joins-not c.args.value c.in_ok-text.text c.args.piece.now c.args.state.now c.in_ok-text.ensures
    (sym c.is_beyond.ensures ∙ c.if-is_beyond.true))

pub returns : goal.returns
returns c =
    rw c.in_ok-append.ensures.ok (joins c.args.value c.in_ok-text.text c.args.piece.now c.args.state.now
    c.in_ok-text.ensures (sym c.is_beyond.ensures ∙ c.if-is_beyond.false))
