-- What is done at once: a run that has no moment, and what a call answers of it.
use Rattle.std.specs.Prelude.{◌≡◌, Result, Ok, Err}
use Rattle.dp_state.specs.declared.moments.Outcome.{Outcome}
use Rattle.dp_state.specs.declared.moments.Outcome.TheVariants.{Fatal}
use Rattle.dp_state.specs.declared.state.Fault.{Fault}
use Rattle.dp_state.specs.declared.state.Fault.TheVariants as fault
use Rattle.dp_state.specs.declared.state.State.{State}
use Rattle.dp_state.specs.States.{file_of, line_of}
use Rattle.dp_actions.specs.declared.halt.Halt.{Halt}
use Rattle.dp_actions.specs.declared.halt.Halt.TheVariants.{Memory, Finished, Stopped}
use Rattle.dp_actions.specs.Run.{Run, Done, Over}

-- a call that answers this and leaves this state has done this run; out of memory says nothing
abbrev pub Leaves : {A : Type 0} → Run A → Result A Halt → State → Type 0
Leaves run (Ok a) s = run ≡ Done a s
Leaves run (Err (Finished o)) s = run ≡ Over o s
Leaves run (Err (Stopped moment)) s = ⊥
Leaves run (Err Memory) s = Unit {0}

pub record AtOnce {A : Type 0} (run : Run A) (result : Result A Halt) (s : State) : Type 0 where
  pub leaves : Leaves run result s

-- a run by which the program is over is answered as over, whatever memory there is
abbrev pub EndsSurely : {A : Type 0} → Run A → Result A Halt → Type 0
EndsSurely run result = (o : Outcome) (s : State) → run ≡ Over o s → result ≡ Err (Finished o)

-- what a refused step is to a call
abbrev pub halt_of : Fault → State → Halt
halt_of (fault.Fatal kind) s = Finished (Fatal kind (file_of s) (line_of s))
halt_of fault.Memory s = Memory

-- what a step is to a call
abbrev pub settled_of : Result Unit Fault → State → Result Unit Halt
settled_of (Ok done) s = Ok tt
settled_of (Err why) s = Err (halt_of why s)
