-- Small steps that may come to a moment, from those that do not.
use Rattle.std.proofs.Common.{◌≡◌, None, Ok, Err, sym, ap, ◌∙◌}
use Rattle.dp_state.specs.declared.state.State.{State}
use Rattle.dp_actions.specs.declared.halt.Halt.{Halt}
use Rattle.dp_actions.specs.declared.halt.Halt.TheVariants.{Memory, Finished, Stopped}
use Rattle.dp_actions.specs.declared.signal.Signal.{Signal}
use Rattle.dp_actions.specs.Run.{Run}
use Rattle.dp_actions.specs.Setting.{Setting}
use Rattle.dp_small_steps.specs.declared.work.Next.{Next}
use Rattle.dp_small_steps.specs.declared.work.Small.{Small}
use Rattle.dp_small_steps.specs.Leads.{Goes, Leads}
use Rattle.dp_small_steps.specs.Parts.{Follows}
use Rattle.dp_small_steps.specs.Rest.{next_rest, small_rest}

abbrev at_once_of : Next → Small
at_once_of next = record { moment = None; next = next }

pub goes_on : (setting : Setting) (part : Follows → Run Signal) (next : Next) (small : Small) (t : State)
    → small ≡ at_once_of next
    → Leads (next_rest setting) part (Ok next) t → Goes setting part (Ok small) t
goes_on setting part next small t e h = record { by = λ k. h.by k ∙ sym (ap (λ x. small_rest setting x k t) e) }

pub goes_off : (setting : Setting) (part : Follows → Run Signal) (why : Halt) (t : State)
    → Leads (next_rest setting) part (Err why) t → Goes setting part (Err why) t
goes_off setting part Memory t h = record { by = tt }
goes_off setting part (Finished o) t h = record { by = h.by }
goes_off setting part (Stopped m) t h = record { by = h.by }

-- a bare equation
pub goes_as : (setting : Setting) (part : Follows → Run Signal) (small : Small) (t : State)
    → ((k : Follows) → small_rest setting small k t ≡ part k)
    → Goes setting part (Ok small) t
goes_as setting part small t e = record { by = λ k. sym (e k) }
