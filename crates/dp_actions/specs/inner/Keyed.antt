-- A write under keys.
use Rattle.std.specs.Prelude.{Option, ℕ, Bool, List}
use Rattle.dp_value.specs.declared.key.Key.{Key}
use Rattle.dp_actions.specs.Run.{Run, Done, taken, ◌>>=◌}
use Rattle.dp_state.specs.declared.state.State.{State}
use Rattle.dp_state.specs.Places.{assigned}
use Rattle.dp_value.specs.declared.value.Value.{Value}

-- a write of a variable of the top frame under keys, which gives the value
abbrev pub keyed_write : List ℕ → List (Option Key) → Bool → Value → State → Run Value
keyed_write name keys push value s =
    taken (assigned 0 name keys push value s) s >>= λ _ t. Done value t
