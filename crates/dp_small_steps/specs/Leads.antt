-- One small step: what it leaves to do is what was to be done.
use Rattle.std.specs.Prelude.{◌≡◌, Result, Ok, Err}
use Rattle.dp_state.specs.declared.state.State.{State}
use Rattle.dp_actions.specs.declared.halt.Halt.{Halt}
use Rattle.dp_actions.specs.declared.halt.Halt.TheVariants as halt
use Rattle.dp_actions.specs.declared.signal.Signal.{Signal}
use Rattle.dp_actions.specs.Run.{Run, Over}
use Rattle.dp_actions.specs.Setting.{Setting}
use Rattle.dp_small_steps.specs.declared.work.Small.{Small}
use Rattle.dp_small_steps.specs.Parts.{Follows}
use Rattle.dp_small_steps.specs.Rest.{small_rest}

-- `rest` says what it does that is to be done next, finished whole, and then what follows

abbrev pub LeadsBy
    : {N : Type 0}
    → (N → Follows → State → Run Signal) → (Follows → Run Signal) → Result N Halt → State → Type 0
LeadsBy rest part (Ok next) t = (k : Follows) → part k ≡ rest next k t
LeadsBy rest part (Err halt.Memory) t = Unit {0}
LeadsBy rest part (Err (halt.Finished outcome)) t = (k : Follows) → part k ≡ Over outcome t
LeadsBy rest part (Err (halt.Stopped moment)) t = ⊥

-- a part leads to what is to be done next, in this state, or to the end of the program
pub record Leads
    {N : Type 0} (rest : N → Follows → State → Run Signal) (part : Follows → Run Signal)
    (result : Result N Halt) (t : State)
    : Type 0 where
  pub by : LeadsBy rest part result t

-- the same behind a moment, if there is one
abbrev pub Goes : Setting → (Follows → Run Signal) → Result Small Halt → State → Type 0
Goes setting part result t = Leads (small_rest setting) part result t
