-- What a command asks for by a name, with all refusals in their order: 301, 302, and 300 where the
-- bytes are no name or nothing stands there. DBGp 1.0, "property_get", "property_value".
use Rattle.std.specs.Prelude.{ℕ, List, Option, ok_or, Result, Ok}
use Rattle.dp_packet.specs.declared.error_codes.ErrorCode.{ErrorCode}
use Rattle.dp_packet.specs.declared.error_codes.ErrorCode.TheVariants.{CannotGetProperty}
use Rattle.dp_packet.specs.declared.property.Property.{Property}
use Rattle.dp_state.specs.declared.moments.Path.{Path}
use Rattle.dp_state.specs.declared.state.State.{State}
use Rattle.dp_view.specs.declared.paging.Paging.{Paging}
use Rattle.dp_view.specs.declared.values.ShownValue.{ShownValue}
use Rattle.dp_view.specs.Answers.{and_then}
use Rattle.dp_view.specs.Places.{shown_variables, value_at}
use Rattle.dp_view.specs.Properties.{property_at}
use Rattle.dp_view.specs.NameReader.{path_at}
use Rattle.dp_view.specs.Values.{value_shown}

-- the path that is named, where there are the level and the context
abbrev pub named_path : State → ℕ → ℕ → List ℕ → Result Path ErrorCode
named_path s level id name =
    and_then (λ variables. ok_or (path_at name) CannotGetProperty) (shown_variables s level id)

-- what is shown of it
abbrev pub named_property : State → ℕ → ℕ → List ℕ → Paging → Result Property ErrorCode
named_property s level id name p =
    and_then (λ path. property_at s level id path p) (named_path s level id name)

-- what property_value shows of it
abbrev pub named_value : State → ℕ → ℕ → List ℕ → Option ℕ → Result ShownValue ErrorCode
named_value s level id name most =
    and_then (λ path. and_then (λ d. Ok (value_shown most d)) (value_at s level id path))
    (named_path s level id name)
