-- What is shown in so many bytes of a packet's text: code 300 where it has more. That there is a
-- limit is this engine's own.
use Rattle.std.specs.Prelude.{ℕ, nat_le, if◌then◌else◌, List, length, map, Result, Ok, Err}
use Rattle.dp_markup.specs.Texts.{node_text, nodes_text}
use Rattle.dp_packet.specs.declared.error_codes.ErrorCode.{ErrorCode}
use Rattle.dp_packet.specs.declared.error_codes.ErrorCode.TheVariants.{CannotGetProperty}
use Rattle.dp_packet.specs.declared.property.Property.{Property}
use Rattle.dp_packet.specs.Properties.{property_node}
use Rattle.dp_state.specs.declared.state.State.{State}
use Rattle.dp_value.specs.Data.{Data}
use Rattle.dp_view.specs.declared.paging.Paging.{Paging}
use Rattle.dp_view.specs.Answers.{and_then}
use Rattle.dp_view.specs.Named.{named_property}
use Rattle.dp_view.specs.Properties.{context_at, shown}

-- how many bytes properties have in the text of a packet
abbrev pub property_size : Property → ℕ
property_size made = length (node_text (property_node made))

abbrev pub properties_size : List Property → ℕ
properties_size made = length (nodes_text (map property_node made))

-- what is shown, if it has at most so many bytes
abbrev pub within : {A : Type 0} → ℕ → (A → ℕ) → A → Result A ErrorCode
within most size made = if nat_le (size made) most then Ok made else Err CannotGetProperty

-- the same of what is asked for by a name, and 300 where the name is none
abbrev pub limited_property : State → ℕ → ℕ → List ℕ → Paging → ℕ → Result Property ErrorCode
limited_property s level id name p most =
    and_then (within most property_size) (named_property s level id name p)

-- the variables of a context: 301, 302, and 300 where they are too long
abbrev pub limited_context : State → ℕ → ℕ → Paging → ℕ → Result (List Property) ErrorCode
limited_context s level id p most =
    and_then (within most properties_size) (context_at s level id p)

-- what an evaluation shows of its value
abbrev pub limited_shown : Data → Paging → ℕ → Result Property ErrorCode
limited_shown d p most = within most property_size (shown p d)
