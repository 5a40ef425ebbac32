-- A program ends with a status that a record may have.
use Rattle.std.proofs.Common.{◌≡◌, ℕ, ◌≤◌, ◌==◌, ◌||◌, Bool, true, Option, Some, None, refl, ap, ◌∙◌}
use Rattle.std.proofs.lemmas.Bool.{le-leb}
use Rattle.dp_engine.specs.declared.session.SessionEnd.{SessionEnd}
use Rattle.dp_engine.specs.declared.session.SessionEnd.TheVariants.{Finished, Killed, Detached}
use Rattle.dp_engine.specs.Served.{ending_after}
use Rattle.dp_engine.specs.Session.{State, outcome_of}
use Rattle.dp_meaning.proofs.Exits.{exit_small}
use Rattle.dp_state.specs.Statuses.{status}
use Rattle.dp_records.specs.Statuses.{bad_status, is_status}
use Rattle.dp_state.specs.declared.moments.Outcome.{Outcome}
use Rattle.dp_state.specs.declared.moments.Outcome.TheVariants.{Done, Exit, Fatal, Bound}

exit_fits : (n : ℕ) → n ≤ 199 → is_status n ≡ true
exit_fits n small = ap (λ (b : Bool). b || n == bad_status || n == 210 || n == 255) (le-leb n 199 small)

by_end : (state : State) (o : Outcome) → outcome_of state ≡ o → is_status (status (Some o)) ≡ true
by_end state Done is = refl
by_end state (Exit n) is = exit_fits n (exit_small state.bundle state.bound state.writes n is)
by_end state (Fatal kind file line) is = refl
by_end state Bound is = refl

by_ended : (ended : Option SessionEnd) (state : State) → is_status (status (ending_after ended state)) ≡ true
by_ended (Some Killed) state = refl
by_ended (Some Detached) state = by_end state _ refl
by_ended (Some (Finished o)) state = by_end state _ refl
by_ended None state = by_end state _ refl

pub ends_so : (ended : Option SessionEnd) (state : State) (o : Option Outcome) → o ≡ ending_after ended state
    → is_status (status o) ≡ true
ends_so ended state o is = ap (λ (e : Option Outcome). is_status (status e)) is ∙ by_ended ended state
