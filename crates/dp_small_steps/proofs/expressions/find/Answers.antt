use Rattle.std.proofs.Common.{sym, ap, ◌∙◌}
use Rattle.dp_actions.specs.Run.{and_then}
use Rattle.dp_actions.proofs.Layers.{found-plain}
use Rattle.dp_small_steps.specs.Parts.{to_value}
use Rattle.dp_small_steps.proofs.Begins.{finds-Index}
use Rattle.dp_small_steps.proofs.expressions.find.Goals as goal

pub returns-in-Index : goal.returns-in-Index
returns-in-Index c = λ setting k s.
    rw (sym c.as_ref.ensures ∙ c.in-Index.is) (sym (finds-Index setting k s _ _))

pub returns-in_default : goal.returns-in_default
returns-in_default c = λ setting k s.
    rw (c.alone.ensures, c.as_ref.ensures) (ap (λ part. and_then (part setting s) (to_value k))
    (sym (found-plain c.args.e.now (rw c.as_ref.ensures at c.in_default.not-Index))))
