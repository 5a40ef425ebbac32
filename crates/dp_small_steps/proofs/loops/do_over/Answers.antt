use Rattle.std.proofs.Common.{sym, ◌∙◌}
use Rattle.dp_small_steps.specs.Rest.{do_test}
use Rattle.dp_small_steps.proofs.TurnLaws.{do-test, over-on, over-out}
use Rattle.dp_small_steps.proofs.loops.do_over.Goals as goal

pub returns-in-On : goal.returns-in-On
returns-in-On c = λ setting k s.
    rw (c.placed.ensures, c.evaluated.ensures) (do-test setting k s c.args.turns c.args.left
    ∙ over-on setting k s c.args.given (do_test setting c.args.turns c.args.left)
    (sym c.after_body.ensures ∙ c.in-On.is))

pub returns-in-Out : goal.returns-in-Out
returns-in-Out c = λ setting k s.
    rw (c.unplaced.ensures, c.signal.ensures)
    (over-out setting k s c.args.given (do_test setting c.args.turns c.args.left) _
    (sym c.after_body.ensures ∙ c.in-Out.is))
