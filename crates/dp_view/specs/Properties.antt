-- Properties: what is shown of values. DBGp 1.0, "Properties, variables and values".
use Rattle.std.specs.Prelude.{ℕ, Bool, true, false, zero, suc, ◌*◌, List, [], ◌∷◌, length, map, take, drop, Option, Some, None, Result, Ok}
use Rattle.std.specs.List.{flat_map}
use Rattle.std.specs.Option.{option_map_or}
use Rattle.dp_packet.specs.declared.error_codes.ErrorCode.{ErrorCode}
use Rattle.dp_packet.specs.declared.property.Property.{Property}
use Rattle.dp_packet.specs.declared.property.Shape.{Shape}
use Rattle.dp_packet.specs.declared.property.Shape.TheVariants as shape
use Rattle.dp_state.specs.declared.moments.Path.{Path}
use Rattle.dp_state.specs.declared.state.State.{State}
use Rattle.dp_state.specs.declared.vars.Slot.{Slot}
use Rattle.dp_state.specs.Variables.{Variables, slot_of, value_held, value_through}
use Rattle.dp_value.specs.declared.key.Key.{Key}
use Rattle.dp_value.specs.declared.value.Value.{Value}
use Rattle.dp_value.specs.Data.{Data, null, boolean, integer, text, array, pairs_of}
use Rattle.dp_value.specs.Value.{data_of}
use Rattle.dp_view.specs.declared.paging.Paging.{Paging}
use Rattle.dp_view.specs.Answers.{and_then}
use Rattle.dp_view.specs.Names.{key_text, own_name, full_name, entry_name}
use Rattle.dp_view.specs.Places.{shown_variables, value_at}

-- ---- values

-- the entries of a page, counted from 0, where a page has so many
abbrev pub page_of : {A : Type 0} → ℕ → ℕ → List A → List A
page_of page size entries = take size (drop (page * size) entries)

-- What is shown of a value. A text has its whole length and its first bytes; an array has the
-- number of all its entries, and what `nest` shows of those of this page.
abbrev pub shape_of : Paging → ℕ → (List (Key × Data) → List Property) → Data → Shape
shape_of p page nest null = shape.Null
shape_of p page nest (boolean b) = shape.Bool b
shape_of p page nest (integer n) = shape.Int n
shape_of p page nest (text bytes) = shape.Text (length bytes) (take p.bytes bytes)
shape_of p page nest (array es largest) =
    shape.Array (length (pairs_of es)) page p.children
    (nest (page_of page p.children (pairs_of es)))

-- the property of an entry of an array with this full name; `nest` shows the entries of one that is
-- an array, of which page 0 is shown
abbrev pub entry_property : Paging → (Option (List ℕ) → List (Key × Data) → List Property)
    → Option (List ℕ)
    → Key × Data → Property
entry_property p nest full e = record {
  name = Some (key_text e.0);
  fullname = entry_name full e.0;
  shape = shape_of p 0 (nest (entry_name full e.0)) e.1;
}

-- what is shown of the entries of an array with this full name, where so many levels are left: with
-- none left no entry
abbrev pub nested : Paging → ℕ → Option (List ℕ) → List (Key × Data) → List Property
nested p zero full entries = []
nested p (suc levels) full entries = map (entry_property p (nested p levels) full) entries

-- the property of a value with these names: an array shows the page that is asked for, and arrays
-- nest as deep as asked
abbrev pub property_of : Paging → Option (List ℕ) → Option (List ℕ) → Data → Property
property_of p name full d = record {
  name = name;
  fullname = full;
  shape = shape_of p p.page (nested p p.depth full) d;
}

-- what an evaluation shows of its value, which has no name
abbrev pub shown : Paging → Data → Property
shown p d = property_of p None None d

-- a value of which bytes or entries are copied where it is shown
abbrev pub is_copied : Data → Bool
is_copied (text bytes) = true
is_copied (array es largest) = true
is_copied other = false

-- ---- places

-- what is shown of what stands at a path in a context
abbrev pub path_property : ℕ → Path → Paging → Data → Property
path_property id path p d = property_of p (Some (own_name id path)) (Some (full_name id path)) d

-- the same of what stands there in a context at a level, or the code of a refusal
abbrev pub property_at : State → ℕ → ℕ → Path → Paging → Result Property ErrorCode
property_at s level id path p =
    and_then (λ d. Ok (path_property id path p d)) (value_at s level id path)

-- the path of a variable
abbrev pub variable_path : List ℕ → Path
variable_path name = record { name = name; keys = [] }

-- the value of a variable; one that is bound has that of the global variable of its name, if there
-- is one
abbrev pub variable_value : Variables → List ℕ × Slot → Option Value
variable_value globals v = value_through (Some v.1) (value_held (slot_of globals v.0))

-- what is shown of a variable of a context: what stands at its path, if it has a value
abbrev pub variable_shown : ℕ → Paging → Variables → List ℕ × Slot → List Property
variable_shown id p globals v =
    option_map_or (λ value. path_property id (variable_path v.0) p (data_of value) ∷ [])
    (variable_value globals v) []

-- what a context at a level shows: its variables in the order of their first assignment, or its
-- constants in that of their definition; or the code of a refusal
abbrev pub context_at : State → ℕ → ℕ → Paging → Result (List Property) ErrorCode
context_at s level id p =
    and_then (λ variables. Ok (flat_map (variable_shown id p s.globals) variables))
    (shown_variables s level id)
