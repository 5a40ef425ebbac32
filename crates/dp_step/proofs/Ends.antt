-- A program that has ended stays so.
use Rattle.std.proofs.Common.{◌≡◌, ℕ, Result, Ok, Err, refl, sym, ap, ◌∙◌, subst}
use Rattle.std.specs.Prelude.{IfOk, OnOk}
use Rattle.dp_state.specs.declared.moments.MomentKind.{MomentKind}
use Rattle.dp_state.specs.declared.moments.Outcome.{Outcome}
use Rattle.dp_actions.specs.declared.signal.Signal.{Signal}
use Rattle.dp_actions.specs.Run.{Run, Done, Over, At}
use Rattle.dp_meaning.specs.declared.stop.Stop.TheVariants as stop
use Rattle.dp_meaning.specs.inner.Drive.{stopped}
use Rattle.dp_step.specs.declared.machine.Arrival.TheVariants as arrival
use Rattle.dp_step.specs.declared.machine.Machine.{Machine}
use Rattle.dp_step.specs.declared.machine.Progress.{Progress}
use Rattle.dp_step.specs.declared.machine.Progress.TheVariants as progress
use Rattle.dp_small_steps.specs.declared.work.Hand.TheVariants as hand
use Rattle.dp_step.specs.Stands.{HasEnded, Leaves, rest_of}
use Rattle.dp_step.specs.inner.Leaps.{RunsOut, driven}
use Rattle.dp_step.specs.inner.Moves.{Arrives, Comes, IsOver}
use Rattle.dp_step.proofs.Smalls.{rest-by}

-- the end is in hand
pub over-left : (m : Machine) (o : Outcome) → m.hand ≡ hand.Over o → HasEnded o m
over-left m o e = λ s. rest-by m m.bundle.now m.bound m.depth (hand.Over o) m.pending.items refl refl refl e refl s

abbrev NotAt : Run Signal → Type 0
NotAt (Done g s) = Unit {0}
NotAt (Over o s) = Unit {0}
NotAt (At kind line s go) = ⊥

-- it comes to no moment
pub came-ended : (o : Outcome) (old new : Machine) (kind : MomentKind) (line : ℕ) → HasEnded o old
    → Arrives old (rest_of old old.state) (arrival.Moment kind line) new → ⊥
came-ended o old new kind line ended came = subst NotAt (sym (ended old.state) ∙ came.by) tt

-- it comes to the same end, in the same state
pub end-stays : (o : Outcome) (old new : Machine) (outcome : Outcome) → HasEnded o old
    → Arrives old (rest_of old old.state) (arrival.End outcome) new
    → (progress.Ended outcome ≡ progress.Ended o) × (new.state ≡ old.state)
end-stays o old new outcome ended came =
    let over = subst (λ r. IsOver r outcome new.state) (ended old.state) came.by in (ap progress.Ended over.0, over.1)

-- and so where nothing stops it
pub out-stays : (o : Outcome) (old new : Machine) (outcome : Outcome) → HasEnded o old
    → RunsOut old (rest_of old old.state) outcome new → (outcome ≡ o) × (new.state ≡ old.state)
out-stays o old new outcome ended out =
    let same : stop.Ended o old.state ≡ stop.Ended outcome new.state =
    sym (ap (λ (r : Run Signal). stopped (driven old r)) (ended old.state)) ∙ out in
    (cc, cc)

pub come-leaves : {E : Type 0} (kind : MomentKind) (line : ℕ) (old new : Machine) (r : Result Progress E)
    → IfOk r (λ came. Comes kind line old came new) → OnOk r (Leaves r new)
come-leaves kind line old new (Err e) h = tt
come-leaves kind line old new (Ok (progress.At moment)) h = tt
come-leaves kind line old new (Ok (progress.Ended o)) h = rw h.by.1 h.by.3
