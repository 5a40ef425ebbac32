-- The state of a stop, and what follows a moment of a run.
use Rattle.std.specs.Prelude.{ℕ, ◌+◌, nat_lt, nat_eq, if◌then◌else◌, Option, Some, None}
use Rattle.dp_state.specs.declared.state.State.{State}
use Rattle.dp_meaning.specs.declared.stop.Stop.{Stop}
use Rattle.dp_meaning.specs.declared.stop.Stop.TheVariants as stop
use Rattle.dp_actions.specs.Run.{Run, Done, Over, At}
use Rattle.dp_meaning.specs.Writes.{Writes, arrived, written}

-- the state of a stop
abbrev pub state_of : Stop → State
state_of (stop.At moment s) = s
state_of (stop.Ended outcome s) = s

-- what follows the moment of a number of a run, by the state after the writes of that moment
abbrev pub following : {A : Type 0} → ℕ → Writes → Run A → ℕ → Option (State → Run A)
following bound writes (Done a s) number = None
following bound writes (Over o s) number = None
following bound writes (At kind line s go) number =
    if nat_lt s.moments bound
    then (
    if nat_eq (s.moments + 1) number then Some go
    else following bound writes (go (written writes (s.moments + 1) (arrived line s))) number
    )
    else None
