-- What stands at a path, within a limit.
use Rattle.dp_view.specs.declared.paging.Paging.{Paging}
use Rattle.std.specs.Prelude.{ℕ, Result}
use Rattle.dp_view.specs.Properties.{property_at}
use Rattle.dp_state.specs.declared.state.State.{State}
use Rattle.dp_packet.specs.declared.error_codes.ErrorCode.{ErrorCode}
use Rattle.dp_packet.specs.declared.property.Property.{Property}
use Rattle.dp_view.specs.Answers.{and_then}
use Rattle.dp_state.specs.declared.moments.Path.{Path}
use Rattle.dp_view_limits.specs.Limits.{property_size, within}

-- what stands at a path: 301, 302, 300 where nothing stands there, and where it is too long
abbrev pub limited_at : State → ℕ → ℕ → Path → Paging → ℕ → Result Property ErrorCode
limited_at s level id path p most =
    and_then (within most property_size) (property_at s level id path p)
