-- A continuation that is passed moment by moment, up to its stop or to the end.
use Rattle.std.specs.Prelude.{◌≡◌, ◌≢◌, ℕ, zero, suc}
use Rattle.dp_command.specs.declared.command.Continuation.{Continuation}
use Rattle.dp_engine.specs.declared.passes.Passing.TheVariants.{On}
use Rattle.dp_engine.specs.Passes.{passed, passing}
use Rattle.dp_engine.specs.Session.{State}

-- once so many moments were passed
abbrev pub passed_all : ℕ → State → State
passed_all zero state = state
passed_all (suc k) state = passed_all k (passed state)

-- past just so many moments, at which it goes on, a continuation from this depth stops or ends
abbrev pub StopsPast : ℕ → Continuation → ℕ → State → Type 0
StopsPast zero mode depth state = passing mode depth state ≢ On
StopsPast (suc k) mode depth state =
    (passing mode depth state ≡ On) × StopsPast k mode depth (passed state)
