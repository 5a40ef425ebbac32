-- Frames that use the variables of the frame below them.
use Rattle.std.specs.Prelude.{ℕ, zero, suc, Bool, false, if◌then◌else◌, List, slice_get}
use Rattle.std.specs.Option.{option_map_or}
use Rattle.dp_state.specs.declared.state.Frame.{Frame}

-- whether the frame at this position, counted from the lowest, uses the variables of the frame
-- below it
abbrev pub shares_at : List Frame → ℕ → Bool
shares_at frames at = option_map_or (λ f. f.shares) (slice_get frames at) false

-- the position of the frame whose variables the frame at this position uses
abbrev pub owner : List Frame → ℕ → ℕ
owner frames zero = zero
owner frames (suc at) = if shares_at frames (suc at) then owner frames at else suc at
