use Rattle.std.proofs.Common.{refl, is_some, w64, ap, ◌∙◌}
use Rattle.std.proofs.lemmas.Int.{to_z-of_z}
use Rattle.dp_value.specs.declared.value.Value.TheVariants.{Int}
use Rattle.dp_state.specs.inner.Parts.{with_replaced}
use Rattle.dp_state.specs.Variables.{Variables, slot_of, value_held}
use Rattle.dp_state.proofs.Homes.{top-changed, top-replaced, top-vars}
use Rattle.dp_state.proofs.state.State.put_integer.Goals as goal

pub returns-clause-held : goal.returns-clause-held
returns-clause-held c =
    c.put_integer.ensures.held ∙ ap (λ (vs : Variables). is_some (value_held (slot_of vs c.args.name.now)))
    (top-vars c.owner_at-at.result c.args.self.now c.own_mut.result.now c.owner_at-at.ensures.owner
    c.own_mut.ensures.value)

pub returns-clause-put : goal.returns-clause-put
returns-clause-put c =
    top-changed c.owner_at-at.result c.args.self.now c.own_mut.result.now c.owner_at-at.ensures.owner
    c.own_mut.ensures.value _ c.put_integer.new.self (with_replaced c.args.name.now (Int c.args.n)) refl
    (rw (to_z-of_z w64 c.args.n c.ranges.n) at c.put_integer.ensures.exchanged)
    ∙ top-replaced c.owner_at-at.result c.args.self.now c.owner_at-at.ensures.owner c.owner_at-at.ensures.within
    c.args.name.now (Int c.args.n)
