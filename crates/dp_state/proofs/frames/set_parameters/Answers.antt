use Rattle.std.proofs.Common.{inl, inr, sym, ◌∙◌}
use Rattle.dp_state.proofs.Parameters.{names_end, values_end}
use Rattle.dp_state.proofs.frames.set_parameters.Goals as goal

pub returns : goal.returns
returns c =
    elim c.in-None.ensures.steps [
      | inl names ↦ sym (names_end c.loop-name.name-iterator.a.rest.now c.loop-name.name-iterator.b.rest.items
          c.loop-name.vars names.1.0) ∙ c.loop-name.invariant.2
      | inr values ↦
          sym (values_end c.loop-name.name-iterator.a.rest.now c.loop-name.name-iterator.b.rest.items
          c.loop-name.vars (sym c.loop-name.name-iterator.b.rest.ok.0 ∙ values.1.0))
          ∙ c.loop-name.invariant.2
    ]
