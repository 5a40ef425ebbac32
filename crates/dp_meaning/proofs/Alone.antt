-- A run by itself is one that is driven with no writes and no stop.
use Rattle.std.proofs.Common.{◌≡◌, ◌+◌, Bool, true, false, [], Option, Some, None, Result, Ok, Err, refl, sym, ap, ◌∙◌, subst}
use Rattle.std.specs.Prelude.{if◌then◌else◌, nat_lt, option_map}
use Rattle.dp_state.specs.declared.moments.Moment.{Moment}
use Rattle.dp_state.specs.declared.moments.Outcome.TheVariants.{Bound}
use Rattle.dp_state.specs.declared.state.State.{State}
use Rattle.dp_tree.specs.declared.tree.Expression.{Expression}
use Rattle.dp_value.specs.declared.value.Value.{Value}
use Rattle.dp_actions.specs.declared.halt.Halt.{Halt}
use Rattle.dp_actions.specs.declared.signal.Signal.{Signal}
use Rattle.dp_meaning.specs.declared.stop.Stop.{Stop}
use Rattle.dp_actions.specs.declared.halt.Halt.TheVariants.{Memory, Finished, Stopped}
use Rattle.dp_meaning.specs.inner.Drive.{Rules, Reached, Gives, Ends, Stops, drive, nowhere, Meets, IsEvaluated, ComesTo, IsStopAt, halt_after, stopped}
use Rattle.dp_actions.specs.Expressions.{evaluation}
use Rattle.dp_actions.specs.Run.{Run, Done, Over, At}
use Rattle.dp_actions.specs.Setting.{Setting}
use Rattle.dp_meaning.specs.Trace.{moment_of}
use Rattle.dp_meaning.specs.Writes.{alone, arrived, evaluated, evaluation_limit, recounted, written}

abbrev pub given : {A : Type 0} → Reached A → Option (A × State)
given (Gives a s) = Some (a, s)
given (Ends o s) = None
given (Stops m s) = None

pub alone-drive : {A : Type 0} (rules : Rules) (r : Run A) → rules.halts ≡ nowhere → rules.writes.list ≡ []
    → alone rules.bound r ≡ given (drive rules r)
alone-drive rules (Done a s) h e = refl
alone-drive rules (Over o s) h e = refl
alone-drive {A} rules (At kind line s go) h e =
    cases (nat_lt s.moments rules.bound) (alone-drive rules (go (arrived line s)) h e)
  where
    none : written rules.writes (s.moments + 1) (arrived line s) ≡ arrived line s
    none = rw e refl

    other : rules.halts (moment_of kind (arrived line s)) (written rules.writes (s.moments + 1) (arrived line s)) ≡
        false
    other =
        ap (λ (halts : Moment → State → Bool). halts (moment_of kind (arrived line s))
        (written rules.writes (s.moments + 1) (arrived line s))) h

    cases : (b : Bool) → alone rules.bound (go (arrived line s)) ≡ given (drive rules (go (arrived line s)))
        → (if b then alone rules.bound (go (arrived line s)) else None)
        ≡ given (if b then (
        if rules.halts (moment_of kind (arrived line s)) (written rules.writes (s.moments + 1) (arrived line s))
        then Stops (moment_of kind (arrived line s)) (written rules.writes (s.moments + 1) (arrived line s))
        else drive rules (go (written rules.writes (s.moments + 1) (arrived line s)))
        ) else Ends Bound s)
    cases true ih = rw (other, none) ih
    cases false ih = refl

-- ---- evaluations
-- what a run came to, where its answer is held
pub comes-to : (r : Reached Value) (x : Result Value Halt) (answer : Option Value) (t : State) → Meets x t r
    → IsEvaluated x answer → ComesTo r answer t
comes-to r (Ok v) answer t m h = rw m (h, refl)
comes-to r (Err Memory) answer t m h = absurd h
comes-to r (Err (Finished o)) answer t m h = rw m (h, refl)
comes-to r (Err (Stopped moment)) answer t m h = rw m (h, refl)

module _ (quiet : Rules) (bound : quiet.bound ≡ evaluation_limit) (unstopped : quiet.halts ≡ nowhere)
    (unwritten : quiet.writes.list ≡ [])
    (setting : Setting) (e : Expression) (s copy : State) (same : copy ≡ s) where
  reached : (r : Reached Value) → drive quiet (evaluation e setting (record copy { moments = 0 })) ≡ r
      → evaluated setting e s ≡ recounted s.moments (given r)
  reached r m =
      ap (recounted s.moments) (ap (λ n. alone n (evaluation e setting (record s { moments = 0 }))) (sym bound)
      ∙ alone-drive quiet (evaluation e setting (record s { moments = 0 })) unstopped unwritten
      ∙ ap given (subst (λ (k : State). drive quiet (evaluation e setting (record k { moments = 0 })) ≡ r) same m))

  came : (r : Reached Value) (answer : Option Value) (t : State)
      → drive quiet (evaluation e setting (record copy { moments = 0 })) ≡ r
      → ComesTo r answer t → evaluated setting e s ≡ option_map (λ v. (v, record t { moments = s.moments })) answer
  came (Gives v u) answer t m k = rw (k.0, k.1) (reached (Gives v u) m)
  came (Ends o u) answer t m k = rw k.0 (reached (Ends o u) m)
  came (Stops moment u) answer t m k = rw k.0 (reached (Stops moment u) m)

  -- what it came to is what the definitions say
  pub evaluated-comes : (answer : Option Value) (t : State)
      → ComesTo (drive quiet (evaluation e setting (record copy { moments = 0 }))) answer t
      → evaluated setting e s ≡ option_map (λ v. (v, record t { moments = s.moments })) answer
  evaluated-comes answer t k = came _ answer t refl k

-- ---- programs
-- where a program has stopped is where its run came
pub stops-as : (r : Reached Signal) (x : Result Signal Halt) (s : State) (end : Stop) → Meets x s r
    → IsStopAt (halt_after x) s end → end ≡ stopped r
stops-as r (Ok signal) s end m is = is ∙ sym (ap stopped m)
stops-as r (Err Memory) s end m is = absurd is
stops-as r (Err (Finished o)) s end m is = is ∙ sym (ap stopped m)
stops-as r (Err (Stopped moment)) s end m is = is ∙ sym (ap stopped m)
