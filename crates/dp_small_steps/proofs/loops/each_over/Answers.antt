use Rattle.std.proofs.Common.{sym, ◌∙◌}
use Rattle.dp_small_steps.specs.Rest.{each_from}
use Rattle.dp_small_steps.proofs.TurnLaws.{over-on, over-out}
use Rattle.dp_small_steps.proofs.loops.each_over.Goals as goal

pub returns-in-On : goal.returns-in-On
returns-in-On c = λ setting k s.
    rw (c.unplaced.ensures, c.alone.ensures)
    (over-on setting k s c.args.given (each_from setting c.args.turns c.args.subject c.args.at)
    (sym c.after_body.ensures ∙ c.in-On.is))

pub returns-in-Out : goal.returns-in-Out
returns-in-Out c = λ setting k s.
    rw (c.unplaced-in-Out.ensures, c.signal.ensures)
    (over-out setting k s c.args.given (each_from setting c.args.turns c.args.subject c.args.at) _
    (sym c.after_body.ensures ∙ c.in-Out.is))
