-- What variables lend.
use Rattle.std.specs.Prelude.{ℕ, List, Option}
use Rattle.std.specs.Borrow.{Fml, LendsIf, MutBor}
use Rattle.dp_state.specs.contracts.hashed.Hashed.{the_row as hashed_row}
use Rattle.dp_state.specs.contracts.vars.Slot.{the_row as slot_row}
use Rattle.dp_state.specs.contracts.vars.Vars.{the_row as vars_row}
use Rattle.dp_state.specs.declared.vars.Slot.{Slot}
use Rattle.dp_state.specs.declared.vars.Slot.TheVariants.{Held}
use Rattle.dp_state.specs.Variables.{Variables, with_slot}
use Rattle.dp_value.specs.contracts.value.Value.{the_row as value_row}
use Rattle.dp_value.specs.declared.value.Value.{Value}

-- the name ends with the slot that is left where it was lent, and without a loan all stay
abbrev pub LendsSlot : MutBor Variables → List ℕ → Option (MutBor Slot) → Fml
LendsSlot s name r = LendsIf vars_row slot_row s r (with_slot s.now name) s.now

-- the same of those that are found by the hash of their names
abbrev pub LendsHashed : MutBor Variables → List ℕ → Option (MutBor Slot) → Fml
LendsHashed s name r = LendsIf hashed_row slot_row s r (λ w. with_slot s.now name w) s.now

-- the slot ends with the value that is left where it was lent, and without a loan it stays
abbrev pub LendsHeld : MutBor Slot → Option (MutBor Value) → Fml
LendsHeld s r = LendsIf slot_row value_row s r Held s.now

-- the name ends with the value that is left where it was lent, and without a loan all stay
abbrev pub LendsValue : MutBor Variables → List ℕ → Option (MutBor Value) → Fml
LendsValue s name r = LendsIf vars_row value_row s r (λ v. with_slot s.now name (Held v)) s.now
