use Rattle.std.proofs.Common.{sym, ◌∙◌}
use Rattle.dp_actions.proofs.Tails.{present-none, present-some}
use Rattle.dp_small_steps.proofs.ResumedParts.{or_assign-missing, or_assign-there}
use Rattle.dp_small_steps.proofs.parts.or_assign.Goals as goal

pub returns-in-Some : goal.returns-in-Some
returns-in-Some c = λ setting k s.
    let p = present-some c.args.old c.in-Some.old (sym c.present.ensures ∙ c.in-Some.is) in
    rw c.give.ensures (or_assign-there setting k s c.args.name.now c.args.indices c.args.right.now c.args.old
    c.in-Some.old p.0 p.1)

pub returns-in-None : goal.returns-in-None
returns-in-None c = λ setting k s.
    rw c.as_ref.ensures (or_assign-missing setting k s c.args.name.now c.args.indices c.args.right.now c.args.old
    (present-none c.args.old (sym c.present.ensures ∙ c.in-None.is)))
