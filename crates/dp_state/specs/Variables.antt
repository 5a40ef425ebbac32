-- Variables in the order of their first assignment.
use Rattle.std.specs.Prelude.{ℕ, ℤ, ◌+ℤ◌, cond, List, Option, Some, None}
use Rattle.std.specs.Map.{lookup, remove_entry}
use Rattle.std.specs.Str.{bytes_eq}
use Rattle.dp_value.specs.declared.value.Value.{Value}
use Rattle.dp_value.specs.declared.value.Value.TheVariants.{Null, Bool, Int, Text, Array}
use Rattle.dp_bytes.specs.IntText.{is_in_64_bits}
use Rattle.dp_state.specs.declared.vars.Slot.{Slot}
use Rattle.dp_state.specs.declared.vars.Slot.TheVariants.{Held, Bound}
use Rattle.indexmap.specs.IndexMap.{insert_entry}

-- names and what they have
abbrev pub Variables : Type 0
Variables = List (List ℕ × Slot)

-- what a name has
abbrev pub slot_of : Variables → List ℕ → Option Slot
slot_of variables name = lookup (bytes_eq name) variables

-- with a slot for a name: a name that is there keeps its place, a new one goes last
abbrev pub with_slot : Variables → List ℕ → Slot → Variables
with_slot variables name slot = insert_entry bytes_eq variables name slot

-- without a name
abbrev pub without : Variables → List ℕ → Variables
without variables name = remove_entry (bytes_eq name) variables

-- the value that a slot holds
abbrev pub value_held : Option Slot → Option Value
value_held None = None
value_held (Some Bound) = None
value_held (Some (Held value)) = Some value

-- the sum of the integer that a slot holds and another one, where it fits 64 bits
abbrev pub sum_in : ℤ → Option Slot → Option ℤ
sum_in by None = None
sum_in by (Some Bound) = None
sum_in by (Some (Held Null)) = None
sum_in by (Some (Held (Bool b))) = None
sum_in by (Some (Held (Int n))) = cond (is_in_64_bits (n +ℤ by)) (Some (n +ℤ by)) None
sum_in by (Some (Held (Text bytes))) = None
sum_in by (Some (Held (Array table))) = None

-- the value of a name that has this slot, where the global variable of its name has that value
abbrev pub value_through : Option Slot → Option Value → Option Value
value_through None global = None
value_through (Some Bound) global = global
value_through (Some (Held value)) global = Some value

-- the value of a name among variables beside the global ones
abbrev pub value_in : Variables → Variables → List ℕ → Option Value
value_in globals variables name =
    value_through (slot_of variables name) (value_held (slot_of globals name))
