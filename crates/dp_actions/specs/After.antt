-- What is done at once with what an evaluation answers.
use Rattle.std.specs.Prelude.{◌≡◌, Result, Ok, Err}
use Rattle.dp_state.specs.declared.state.State.{State}
use Rattle.dp_actions.specs.declared.halt.Halt.{Halt}
use Rattle.dp_actions.specs.AtOnce.{AtOnce}
use Rattle.dp_actions.specs.Run.{Run}

-- where it gave something, what comes next is done with it; where it broke off, this is the answer,
-- and the state stays
abbrev pub DoneThen : {A B : Type 0} → Result A Halt → (A → State → Run B) → State → Result B Halt
    → State → Type 0
DoneThen (Ok a) next s x t = AtOnce (next a s) x t
DoneThen (Err h) next s x t = (x ≡ Err h) × (t ≡ s)

pub record Then {A B : Type 0} (answer : Result A Halt) (next : A → State → Run B) (s : State)
    (x : Result B Halt) (t : State) : Type 0 where
  pub done : DoneThen answer next s x t
