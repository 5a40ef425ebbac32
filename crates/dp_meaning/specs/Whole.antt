-- Parts of a program that are run whole, from a state: nothing is written at their moments, and
-- nothing stops them.
use Rattle.std.specs.Prelude.{◌≡◌, [], Result, Ok, Err}
use Rattle.dp_state.specs.declared.state.State.{State}
use Rattle.dp_actions.specs.declared.halt.Halt.{Halt}
use Rattle.dp_actions.specs.declared.halt.Halt.TheVariants.{Memory, Finished, Stopped}
use Rattle.dp_actions.specs.declared.signal.Signal.{Signal}
use Rattle.dp_actions.specs.Setting.{Part}
use Rattle.dp_meaning.specs.declared.whole.Whole.{Whole}
use Rattle.dp_meaning.specs.Programs.{setting_of}
use Rattle.dp_meaning.specs.Trace.{Trace, Gave, Ended, trace}
use Rattle.dp_meaning.specs.Writes.{writes_of}

-- what a call answers that has run to the end of a trace, and the state that it leaves. Out of
-- memory says nothing
abbrev pub Finishes : {A : Type 0} → Trace A → Result A Halt → State → Type 0
Finishes t (Ok a) s = (t.end ≡ Gave a) × (t.state ≡ s)
Finishes t (Err Memory) s = Unit {0}
Finishes t (Err (Finished o)) s = (t.end ≡ Ended o) × (t.state ≡ s)
Finishes t (Err (Stopped moment)) s = ⊥

-- a part has run so, from this state to that
abbrev pub RunsWhole : Whole → Part Signal → Result Signal Halt → State → State → Type 0
RunsWhole by part result s t =
    Finishes (trace by.bound (writes_of by.bundle.now [])
    (part (setting_of by.bundle.now by.bound by.depth) s)) result t
