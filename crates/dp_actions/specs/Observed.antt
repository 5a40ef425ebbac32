-- Parts of runs that have no moment and leave the state as it is, whatever they go by.
use Rattle.std.specs.Prelude.{Result}
use Rattle.dp_state.specs.declared.state.State.{State}
use Rattle.dp_actions.specs.declared.halt.Halt.{Halt}
use Rattle.dp_actions.specs.AtOnce.{AtOnce}
use Rattle.dp_actions.specs.Setting.{Setting, Part}

-- a call that answers this has done the part in a state, which stays
abbrev pub Observed : {A : Type 0} → Part A → Result A Halt → State → Type 0
Observed part result s = (setting : Setting) → AtOnce (part setting s) result s
