use borrow.Follows.Closed.{read_of}
use Rattle.std.proofs.Common.{◌+◌, drop, refl, ◌∙◌, arith}
use Rattle.std.specs.Option.{ghost_name_of}
use Rattle.indexmap.specs.Layout.{length-set_value_at}
use Rattle.dp_state.specs.declared.vars.Slot.{Slot}
use Rattle.dp_state.specs.Variables.{Variables}
use Rattle.dp_state.proofs.Positions.{missing, row-set, row-slot}
use Rattle.dp_state.proofs.hashed.Hashed.slot_mut.Goals as goal

pub returns-in_default : goal.returns-in_default
returns-in_default c =
    rw (← c.self.view_is) (
      refl,
      record {
        writes_back = tt;
        value = missing c.args.name.now (drop c.self.inside.gone c.self.inside.slots.entries) c.in_default.ensures;
      },
    )

pub invariant_of-self-lent : goal.invariant_of-self-lent
invariant_of-self-lent c o =
    let es : Variables = c.self.inside.slots.entries in (
      λ w. omega (arith, length-set_value_at es (c.self.inside.gone + c.in-Some.at) w, c.self.invariant),
      c.self.invariant,
    )

pub returns : goal.returns
returns c =
    let g = c.self.inside.gone in
    let es : Variables = c.self.inside.slots.entries in
    rw (← c.self.view_is) (
      λ t.
          read_of (ghost_name_of c.get_index_mut.result)
          (λ (w : Slot). row-set c.args.name.now g c.in-Some.at es c.in-Some.ensures w t) (drop g es),
      record {
        writes_back = tt;
        value = c.get_index_mut.ensures.value ∙ row-slot c.args.name.now g c.in-Some.at es c.in-Some.ensures;
      },
    )
