-- What is done at once, and what follows it.
use Rattle.std.proofs.Common.{◌≡◌, Result, Ok, Err, ap, subst, sym}
use Rattle.dp_state.specs.declared.state.State.{State}
use Rattle.dp_actions.specs.declared.halt.Halt.{Halt}
use Rattle.dp_actions.specs.declared.halt.Halt.TheVariants.{Memory, Finished, Stopped}
use Rattle.dp_actions.specs.declared.signal.Signal.{Signal}
use Rattle.dp_actions.specs.AtOnce.{AtOnce}
use Rattle.dp_actions.specs.Run.{Run, and_then}
use Rattle.dp_actions.proofs.AtOnceLaws.{first_done}
use Rattle.dp_small_steps.specs.Parts.{Follows}
use Rattle.dp_small_steps.specs.Leads.{Leads}

-- a part that does the same leads to the same
pub leads_as : {N : Type 0} {rest : N → Follows → State → Run Signal} (part same : Follows → Run Signal)
    (x : Result N Halt) (t : State) → ((k : Follows) → part k ≡ same k)
    → Leads rest same x t → Leads rest part x t
leads_as {N} {rest} part same x t e h = subst (λ (p : Follows → Run Signal). Leads rest p x t) (λ i k. sym (e k) i) h

module _ {A : Type 0} where
  -- a part whose first step ends the program, or wants memory
  pub leads_off : {N : Type 0} {rest : N → Follows → State → Run Signal} (r : Run A) (t : State) (why : Halt)
      (next : Follows → A → State → Run Signal)
      → AtOnce r (Err why) t → Leads rest (λ k. and_then r (next k)) (Err why) t
  unfolding and_then
  leads_off r t Memory next h = record { by = tt }
  leads_off r t (Finished o) next h = record { by = λ k. ap (λ z. and_then z (next k)) h.leaves }
  leads_off r t (Stopped m) next h = record { by = h.leaves }

  -- a part whose first step gives something
  pub then_done : (r : Run A) (a : A) (t : State) (next : A → State → Run Signal) → AtOnce r (Ok a) t
      → and_then r next ≡ next a t
  then_done r a t next h = first_done next h
