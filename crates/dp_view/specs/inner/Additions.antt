-- What the code puts behind others, one at a time.
use Rattle.std.specs.Prelude.{ℕ, List, [], ◌∷◌, map, slice_get, Option}
use Rattle.std.specs.Option.{option_map_or}
use Rattle.dp_packet.specs.declared.packet.StackLine.{StackLine}
use Rattle.dp_packet.specs.declared.property.Property.{Property}
use Rattle.dp_state.specs.declared.state.Frame.{Frame}
use Rattle.dp_state.specs.Variables.{Variables}
use Rattle.dp_tree.specs.declared.bundle.Bundle.{Bundle}
use Rattle.dp_value.specs.declared.key.Key.{Key}
use Rattle.dp_value.specs.Data.{Data}
use Rattle.dp_view.specs.declared.paging.Paging.{Paging}
use Rattle.dp_view.specs.Properties.{entry_property, nested, variable_shown}
use Rattle.dp_view.specs.Stacks.{stack_line}

-- the property of an entry, of which so many levels are shown
abbrev pub property_in : Paging → ℕ → Option (List ℕ) → Key × Data → Property
property_in p levels full e = entry_property p (nested p levels) full e

abbrev pub properties : Paging → ℕ → Option (List ℕ) → List (Key × Data) → List Property
properties p levels full entries = map (property_in p levels full) entries

-- that of the entry at a position, if there is one
abbrev pub properties_at : Paging → ℕ → Option (List ℕ) → List (Key × Data) → ℕ → List Property
properties_at p levels full entries at =
    option_map_or (λ e. property_in p levels full e ∷ []) (slice_get entries at) []

-- that of the variable at a position, if there is one
abbrev pub variables_at : ℕ → Paging → Variables → Variables → ℕ → List Property
variables_at id p globals variables at =
    option_map_or (variable_shown id p globals) (slice_get variables at) []

-- the line of a frame at a level, if there is one
abbrev pub line_of : Bundle → ℕ → Option Frame → List StackLine
line_of bundle level frame = option_map_or (λ f. stack_line bundle level f ∷ []) frame []
