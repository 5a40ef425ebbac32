use Rattle.std.proofs.Common.{drop, ap, ◌∙◌}
use Rattle.dp_state.specs.Variables.{Variables, with_slot}
use Rattle.dp_state.proofs.Fronts.{with_slot-drop}
use Rattle.dp_state.proofs.hashed.Hashed.set.Goals as goal

pub returns-clause-ok : goal.returns-clause-ok
returns-clause-ok c =
    ap (drop c.forget.new.gone) c.in_ok-insert.ensures.entries
    ∙ with_slot-drop c.args.name c.args.slot c.forget.new.gone c.forget.new.slots.entries c.forget.ensures.fresh
    c.forget.ensures.within
    ∙ ap (λ (es : Variables). with_slot es c.args.name c.args.slot) (c.forget.ensures.left ∙ c.self.view_is)
