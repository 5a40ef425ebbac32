use Rattle.std.proofs.Common.{◌++◌, sym, ◌∙◌}
use Rattle.dp_actions.proofs.AtOnceLaws.{breaks_off}
use Rattle.dp_actions.proofs.Texts.{grows, grows-not, heavy}
use Rattle.dp_actions.proofs.joins.grown_by.Goals as goal

pub returns-then-is_beyond : goal.returns-then-is_beyond
returns-then-is_beyond c =
    rw c.fatal.ensures (breaks_off _ (heavy (c.args.text ++ c.args.piece.now) c.args.state.now
    (sym c.is_beyond.ensures ∙ c.if-is_beyond.true)))

pub returns-in-Ok : goal.returns-in-Ok
returns-in-Ok c =
    rw c.in-Ok.ensures.longer (grows c.args.name.now c.args.keys.now c.args.text c.args.piece.now c.args.state.now
    c.append.new.self (sym c.is_beyond.ensures ∙ c.if-is_beyond.false) c.in-Ok.ensures.ok)

pub returns-in-Err : goal.returns-in-Err
returns-in-Err c =
    rw c.fault.ensures
    (grows-not c.args.name.now c.args.keys.now c.args.text c.args.piece.now c.args.state.now c.append.new.self
    (sym c.is_beyond.ensures ∙ c.if-is_beyond.false) c.in-Err.why c.in-Err.ensures.refused c.in-Err.ensures.err)
