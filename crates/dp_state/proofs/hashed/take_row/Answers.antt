use Rattle.std.proofs.Common.{◌≡◌, ◌+◌, drop, remove, ap, ◌∙◌, add-one, arith}
use Rattle.indexmap.specs.IndexMap.{set_value_at}
use Rattle.indexmap.specs.Layout.{length-set_value_at}
use Rattle.dp_value.proofs.LeftLemmas.{left-next, left-remove}
use Rattle.dp_state.specs.Variables.{Variables}
use Rattle.dp_state.specs.declared.vars.Slot.TheVariants.{Bound}
use Rattle.dp_state.proofs.Fronts.{set-past}
use Rattle.dp_state.proofs.hashed.take_row.Goals as goal

pub returns-then-at-gt0-clause-left : goal.returns-then-at-gt0-clause-left
returns-then-at-gt0-clause-left c =
    rw c.shift_remove_index.ensures.entries
    (left-remove 0 c.args.gone.now c.args.at c.args.slots.now.entries (omega arith))

pub returns-clause-left : goal.returns-clause-left
returns-clause-left c =
    let es : Variables = c.args.slots.now.entries in
    let g = c.args.gone.now in
    let next : drop (g + 1) (set_value_at es g Bound) ≡ remove (drop g es) 0 =
    rw add-one (set-past g es Bound ∙ left-next 0 g es) in
    let at : 0 ≡ c.args.at = omega arith in
    next ∙ ap (remove (drop g es)) at

pub returns-clause-within : goal.returns-clause-within
returns-clause-within c =
    omega (arith, c.requires, length-set_value_at c.args.slots.now.entries c.args.gone.now Bound)
