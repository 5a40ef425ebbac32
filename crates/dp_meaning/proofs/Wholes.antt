-- A run that nothing stops comes to the end of its trace.
use Rattle.std.proofs.Common.{◌≡◌, ℕ, ◌+◌, Bool, true, false, [], Result, Ok, Err, refl, sym, ◌∙◌, subst}
use Rattle.std.specs.Prelude.{if◌then◌else◌, nat_lt}
use Rattle.dp_state.specs.declared.moments.Moment.{Moment}
use Rattle.dp_state.specs.declared.moments.Outcome.{Outcome}
use Rattle.dp_state.specs.declared.moments.Outcome.TheVariants.{Bound}
use Rattle.dp_state.specs.declared.state.State.{State}
use Rattle.dp_actions.specs.declared.halt.Halt.{Halt}
use Rattle.dp_actions.specs.declared.halt.Halt.TheVariants.{Memory, Finished, Stopped}
use Rattle.dp_actions.specs.declared.signal.Signal.{Signal}
use Rattle.dp_actions.specs.Run.{Run, Done, Over, At}
use Rattle.dp_actions.specs.Setting.{Part}
use Rattle.dp_tree.specs.declared.bundle.Bundle.{Bundle}
use Rattle.dp_meaning.specs.declared.whole.Whole.{Whole}
use Rattle.dp_meaning.specs.Programs.{setting_of}
use Rattle.dp_meaning.specs.inner.Drive.{Reached, Gives, Ends, Stops, Meets, drive, only_bounded}
use Rattle.dp_meaning.specs.Trace.{End, Ended, Gave, Trace, moment_of, trace, with_moment}
use Rattle.dp_meaning.specs.Whole.{Finishes, RunsWhole}
use Rattle.dp_meaning.specs.Writes.{Writes, arrived, written, writes_of}

-- where the end of a trace is
abbrev pub come_to : {A : Type 0} → End A → State → Reached A
come_to (Gave a) s = Gives a s
come_to (Ended o) s = Ends o s

module _ {A : Type 0} (bound : ℕ) (ws : Writes) (none : ws.list ≡ []) where
  pub drive-quiet : (r : Run A) → drive (only_bounded bound) r ≡ come_to (trace bound ws r).end (trace bound ws r).state
  drive-quiet (Done a s) = refl
  drive-quiet (Over o s) = refl
  drive-quiet (At kind line s go) = cases (nat_lt s.moments bound) (drive-quiet (go (arrived line s)))
    where
      same : written ws (s.moments + 1) (arrived line s) ≡ arrived line s
      same = rw none refl

      cases : (b : Bool) → drive (only_bounded bound) (go (arrived line s))
          ≡ come_to (trace bound ws (go (arrived line s))).end (trace bound ws (go (arrived line s))).state
          → (if b then drive (only_bounded bound) (go (arrived line s)) else Ends Bound s)
          ≡ (let whole : Trace A = if b
          then with_moment (moment_of kind (arrived line s)) (arrived line s)
          (trace bound ws (go (written ws (s.moments + 1) (arrived line s))))
          else (record { moments = []; end = Ended Bound; state = s }) in come_to whole.end whole.state)
      cases true ih = rw same ih
      cases false ih = refl

finished-given : {A : Type 0} (e : End A) (t s : State) (a : A) → come_to e t ≡ Gives a s → (e ≡ Gave a) × (t ≡ s)
finished-given (Gave b) t s a m = (cc, cc)
finished-given (Ended o) t s a m = absurd (cc)

finished-ended : {A : Type 0} (e : End A) (t s : State) (o : Outcome) → come_to e t ≡ Ends o s → (e ≡ Ended o) × (t ≡ s)
finished-ended (Gave b) t s o m = absurd (cc)
finished-ended (Ended p) t s o m = (cc, cc)

never-stopped : {A : Type 0} (e : End A) (t s : State) (moment : Moment) → come_to e t ≡ Stops moment s → ⊥
never-stopped (Gave b) t s moment m = cc
never-stopped (Ended p) t s moment m = cc

-- what the evaluator says of such a run, and what is said of it outside
module _ {A : Type 0} (bound : ℕ) (ws : Writes) (none : ws.list ≡ []) (r : Run A) where
  pub finishes : (x : Result A Halt) (s : State) → Meets x s (drive (only_bounded bound) r)
      → Finishes (trace bound ws r) x s
  finishes (Ok a) s m = finished-given _ _ s a (sym (drive-quiet bound ws none r) ∙ m)
  finishes (Err Memory) s m = tt
  finishes (Err (Finished o)) s m = finished-ended _ _ s o (sym (drive-quiet bound ws none r) ∙ m)
  finishes (Err (Stopped moment)) s m = absurd (never-stopped _ _ s moment (sym (drive-quiet bound ws none r) ∙ m))

  pub meets : (x : Result A Halt) (s : State) → Finishes (trace bound ws r) x s
      → Meets x s (drive (only_bounded bound) r)
  meets (Ok a) s f = drive-quiet bound ws none r ∙ (λ i. come_to (f.0 i) (f.1 i))
  meets (Err Memory) s f = tt
  meets (Err (Finished o)) s f = drive-quiet bound ws none r ∙ (λ i. come_to (f.0 i) (f.1 i))
  meets (Err (Stopped moment)) s f = absurd f

-- a part that an evaluator has run by this
pub runs-whole : (by : Whole) (part : Part Signal) (x : Result Signal Halt) (s t : State) (bundle : Bundle)
    (limit bound depth : ℕ)
    → limit ≡ by.bound → bundle ≡ by.bundle.now → bound ≡ by.bound → depth ≡ by.depth
    → Meets x t (drive (only_bounded limit) (part (setting_of bundle bound depth) s)) → RunsWhole by part x s t
runs-whole by part x s t bundle limit bound depth l b n d m =
    finishes by.bound (writes_of by.bundle.now []) refl (part (setting_of by.bundle.now by.bound by.depth) s) x t
    (subst (λ (r : Reached Signal). Meets x t r)
    (λ i. drive (only_bounded (l i)) (part (setting_of (b i) (n i) (d i)) s)) m)
