-- Constants: those that are there from the start, and those that a program defines, each once.
-- Their names have case. Source: the PHP manual, "Constants".
use Rattle.std.specs.Prelude.{pos, negsuc, ℕ, ◌-◌, ◌^◌, if◌then◌else◌, List, [], ◌∷◌, codes, Option, is_some}
use Rattle.std.specs.Map.{lookup}
use Rattle.std.specs.Option.{option_or}
use Rattle.std.specs.Str.{bytes_eq}
use Rattle.dp_value.specs.declared.value.Value.{Value}
use Rattle.dp_value.specs.declared.value.Value.TheVariants.{Int, Text}
use Rattle.dp_state.specs.declared.state.State.{State}
use Rattle.dp_state.specs.declared.vars.Slot.TheVariants.{Held}
use Rattle.dp_state.specs.Variables.{slot_of, value_held, with_slot}

-- those that are there from the start: a line feed, and the ends of 64 bits
abbrev pub standing : List (List ℕ × Value)
standing =
    (codes "PHP_EOL", Text (10 ∷ [])) ∷ (codes "PHP_INT_MAX", Int (pos (2 ^ 63 - 1)))
    ∷ (codes "PHP_INT_MIN", Int (negsuc (2 ^ 63 - 1))) ∷ []

-- the value of a constant
abbrev pub constant : List ℕ → State → Option Value
constant name s =
    option_or (lookup (bytes_eq name) standing) (value_held (slot_of s.constants name))

-- with a constant of this name; where there is one, it keeps its value
abbrev pub with_constant : List ℕ → Value → State → State
with_constant name v s =
    if is_some (constant name s) then s
    else record s { constants = with_slot s.constants name (Held v) }
