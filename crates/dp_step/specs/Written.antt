-- What a write or an evaluation at a moment does with a machine. A refusal changes nothing; memory
-- that runs out fails the machine for good.
use Rattle.std.specs.Prelude.{◌≡◌, Option, Some, None, Result, Ok, Err}
use Rattle.dp_value.specs.declared.value.Value.{Value}
use Rattle.dp_state.specs.declared.state.State.{State}
use Rattle.dp_meaning.specs.declared.writes.WriteFault.{WriteFault}
use Rattle.dp_meaning.specs.declared.writes.WriteFault.TheVariants as fault
use Rattle.dp_step.specs.declared.machine.Machine.{Machine}
use Rattle.dp_step.specs.declared.errors.StepError.{StepError}
use Rattle.dp_step.specs.declared.errors.StepError.TheVariants as error
use Rattle.dp_step.specs.Stands.{HasFailed}

-- by what the write comes to: a state, or the fault
abbrev pub Writes : Result State WriteFault → Result Unit StepError → Machine → Machine → Type 0
Writes asked (Ok done) old new = (asked ≡ Ok new.state) × (new ≡ record old { state = new.state })
Writes asked (Err error.Fatal) old new = ⊥
Writes asked (Err error.NoFrame) old new = (asked ≡ Err fault.NoFrame) × (new ≡ old)
Writes asked (Err error.NoPlace) old new = (asked ≡ Err fault.NoPlace) × (new ≡ old)
Writes asked (Err error.Memory) old new = HasFailed new

-- by the value of the evaluation and the state that it leaves, where it holds
abbrev pub Evaluates : Option (Value × State) → Result Value StepError → Machine → Machine → Type 0
Evaluates asked (Ok v) old new =
    (asked ≡ Some (v, new.state)) × (new ≡ record old { state = new.state })
Evaluates asked (Err error.Fatal) old new = (asked ≡ None) × (new ≡ old)
Evaluates asked (Err error.NoFrame) old new = ⊥
Evaluates asked (Err error.NoPlace) old new = ⊥
Evaluates asked (Err error.Memory) old new = HasFailed new
