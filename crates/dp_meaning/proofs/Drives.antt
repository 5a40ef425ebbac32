-- A run in parts, driven.
use Rattle.std.proofs.Common.{◌≡◌, ℕ, ◌+◌, Bool, true, false, Result, Ok, Err, refl, sym, ap, ◌∙◌, subst}
use Rattle.std.specs.Prelude.{nat_lt, if◌then◌else◌}
use Rattle.std.specs.Result.{IsErrAnd}
use Rattle.std.proofs.lemmas.Result.{err_from_is_err_and}
use Rattle.dp_state.specs.declared.moments.Moment.{Moment}
use Rattle.dp_state.specs.declared.moments.MomentKind.{MomentKind}
use Rattle.dp_state.specs.declared.moments.Outcome.{Outcome}
use Rattle.dp_state.specs.declared.moments.Outcome.TheVariants.{Bound}
use Rattle.dp_state.specs.declared.state.State.{State}
use Rattle.dp_actions.specs.declared.halt.Halt.{Halt}
use Rattle.dp_actions.specs.declared.halt.Halt.TheVariants.{Memory, Finished, Stopped}
use Rattle.dp_meaning.specs.inner.Drive.{Rules, Reached, Gives, Ends, Stops, drive, Meets, Evaluates, moment_run}
use Rattle.dp_actions.specs.AtOnce.{AtOnce, Leaves}
use Rattle.dp_actions.specs.After.{DoneThen, Then}
use Rattle.dp_actions.specs.Run.{Run, Done, Over, At, and_then}
use Rattle.dp_meaning.specs.Trace.{moment_of}
use Rattle.dp_actions.proofs.Runs.{and_then-assoc}
use Rattle.dp_meaning.specs.Writes.{arrived, written}

-- goes on from where the first part came
abbrev pub carry : {A B : Type 0} → Rules → Reached A → (A → State → Run B) → Reached B
carry rules (Gives a s) next = drive rules (next a s)
carry rules (Ends o s) next = Ends o s
carry rules (Stops moment s) next = Stops moment s

carry-if : {A B : Type 0} (rules : Rules) (b : Bool) (x y : Reached A) (next : A → State → Run B)
    → carry rules (if b then x else y) next ≡ (if b then carry rules x next else carry rules y next)
carry-if rules true x y next = refl
carry-if rules false x y next = refl

pub drive-and_then : {A B : Type 0} (rules : Rules) (r : Run A) (next : A → State → Run B)
    → drive rules (and_then r next) ≡ carry rules (drive rules r) next
unfolding and_then
drive-and_then rules (Done a s) next = refl
drive-and_then rules (Over o s) next = refl
drive-and_then rules (At kind line s go) next =
    let t : State = written rules.writes (s.moments + 1) (arrived line s) in
    let m : Moment = moment_of kind (arrived line s) in
    ap (λ z. if nat_lt s.moments rules.bound then (if rules.halts m t then Stops m t else z) else Ends Bound s)
    (drive-and_then rules (go t) next)
    ∙ sym (carry-if rules (nat_lt s.moments rules.bound) _ _ next
    ∙ ap (λ z. if nat_lt s.moments rules.bound then z else Ends Bound s) (carry-if rules (rules.halts m t) _ _ next))

module _ {A : Type 0} {rules : Rules} where
  pub gives : {a : A} {s : State} → Evaluates rules (Done a s) (Ok a) s
  gives = record { meets = refl }

  pub ends : {o : Outcome} {s : State} → Evaluates {A = A} rules (Over o s) (Err (Finished o)) s
  ends = record { meets = refl }

  pub wants_memory : {r : Run A} {s : State} → Evaluates rules r (Err Memory) s
  wants_memory = record { meets = tt }

-- what is done at once, by the rules of any run
meets-at_once : {A : Type 0} (rules : Rules) (run : Run A) (result : Result A Halt) (s : State) → Leaves run result s
    → Meets result s (drive rules run)
meets-at_once rules run (Ok a) s l = ap (drive rules) l
meets-at_once rules run (Err Memory) s l = tt
meets-at_once rules run (Err (Finished o)) s l = ap (drive rules) l
meets-at_once rules run (Err (Stopped moment)) s l = absurd l

pub at_once : {A : Type 0} {rules : Rules} {run : Run A} {result : Result A Halt} {s : State} → AtOnce run result s
    → Evaluates rules run result s
at_once {A} {rules} {run} {result} {s} e = record { meets = meets-at_once rules run result s e.leaves }

-- the first part breaks off
off : {A B : Type 0} (rules : Rules) (h : Halt) (s : State) (r : Run A) (next : A → State → Run B)
    → Meets {A = A} (Err h) s (drive rules r) → Meets {A = B} (Err h) s (drive rules (and_then r next))
off rules Memory s r next m = tt
off rules (Finished o) s r next m = drive-and_then rules r next ∙ ap (λ z. carry rules z next) m
off rules (Stopped moment) s r next m = drive-and_then rules r next ∙ ap (λ z. carry rules z next) m

module _ {A B : Type 0} {rules : Rules} where
  pub breaks_off : {h : Halt} {s : State} {r : Run A} (next : A → State → Run B) → Evaluates rules r (Err h) s
      → Evaluates rules (and_then r next) (Err h) s
  breaks_off {h} {s} {r} next e = record { meets = off rules h s r next e.meets }

  -- the first part gives something, and then the second is run
  pub goes_on : {a : A} {s t : State} {r : Run A} (next : A → State → Run B) {x : Result B Halt}
      → Evaluates rules r (Ok a) s → Evaluates rules (next a s) x t → Evaluates rules (and_then r next) x t
  goes_on {a} {s} {t} {r} next {x} e f = record {
    meets = subst (λ z. Meets x t z) (sym (drive-and_then rules r next ∙ ap (λ z. carry rules z next) e.meets)) f.meets;
  }

-- the first part, and what is done at once with what it gives
module _ {A B : Type 0} (rules : Rules) (r : Run A) (next : A → State → Run B) (s t : State) (x : Result B Halt) where
  then-by : (operand : Result A Halt) → Evaluates rules r operand s → DoneThen operand next s x t
      → Evaluates rules (and_then r next) x t
  then-by (Ok a) e h = goes_on next e (at_once h)
  then-by (Err why) e h = rw (h.0, h.1) (breaks_off next e)

pub then_on : {A B : Type 0} {rules : Rules} {r : Run A} {next : A → State → Run B} {s t : State} {x : Result B Halt}
    {operand : Result A Halt}
    → Evaluates rules r operand s → Then operand next s x t → Evaluates rules (and_then r next) x t
then_on {A} {B} {rules} {r} {next} {s} {t} {x} {operand} e h = then-by rules r next s t x operand e h.done

-- the first two of three parts, joined
module _ {A B C : Type 0} {rules : Rules} where
  pub joined_off : {h : Halt} {s : State} (r : Run A) (f : A → State → Run B) (next : B → State → Run C)
      → Evaluates rules (and_then r f) (Err h) s → Evaluates rules (and_then r (λ a u. and_then (f a u) next)) (Err h) s
  joined_off {h} {s} r f next e = subst (λ z. Evaluates rules z (Err h) s) (and_then-assoc r f next) (breaks_off next e)

  pub joined_on : {b : B} {s t : State} (r : Run A) (f : A → State → Run B) (next : B → State → Run C)
      {x : Result C Halt}
      → Evaluates rules (and_then r f) (Ok b) s → Evaluates rules (next b s) x t
      → Evaluates rules (and_then r (λ a u. and_then (f a u) next)) x t
  joined_on {b} {s} {t} r f next {x} e k =
      subst (λ z. Evaluates rules z x t) (and_then-assoc r f next) (goes_on next e k)

-- a part whose value is only tested, and what follows
module _ {A B C : Type 0} {rules : Rules} (test : A → B) (r : Run A) (next : B → State → Run C) where
  pub tested_off : {h : Halt} {s : State} → Evaluates rules (and_then r (λ v u. Done (test v) u)) (Err h) s
      → Evaluates rules (and_then r (λ v u. next (test v) u)) (Err h) s
  unfolding and_then
  tested_off e = joined_off r (λ v u. Done (test v) u) next e

  pub tested_on : {b : B} {s t : State} {x : Result C Halt}
      → Evaluates rules (and_then r (λ v u. Done (test v) u)) (Ok b) s
      → Evaluates rules (next b s) x t → Evaluates rules (and_then r (λ v u. next (test v) u)) x t
  unfolding and_then
  tested_on e k = joined_on r (λ v u. Done (test v) u) next e k

-- a moment, and what follows
module _ {B : Type 0} {rules : Rules} where
  pub stops_at : {h : Halt} {kind : MomentKind} {line : ℕ} {s t : State} {go : State → Run B}
      → Evaluates rules (moment_run kind line s) (Err h) t → Evaluates rules (At kind line s go) (Err h) t
  unfolding and_then
  stops_at {h} {kind} {line} {s} {t} {go} e = breaks_off (λ _ u. go u) e

  pub passes : {kind : MomentKind} {line : ℕ} {s t u : State} {go : State → Run B} {x : Result B Halt}
      → Evaluates rules (moment_run kind line s) (Ok tt) t → Evaluates rules (go t) x u
      → Evaluates rules (At kind line s go) x u
  unfolding and_then
  passes {kind} {line} {s} {t} {u} {go} {x} e f = goes_on (λ _ w. go w) e f

-- a moment, and what is done at once behind it
pub then_at : {B : Type 0} {rules : Rules} {kind : MomentKind} {line : ℕ} {go : State → Run B} {s t u : State}
    {x : Result B Halt} {done : Result Unit Halt}
    → Evaluates rules (moment_run kind line s) done t → Then done (λ _ v. go v) t x u
    → Evaluates rules (At kind line s go) x u
unfolding and_then
then_at {B} {rules} {kind} {line} {go} {s} {t} {u} {x} {done} e h =
    then-by rules (moment_run kind line s) (λ _ v. go v) t u x done e h.done

-- what the exit of a `?` returns
pub exits : {B : Type 0} {rules : Rules} {run : Run B} {s : State} {h : Halt} {x : Result B Halt}
    → IsErrAnd x (λ y. y ≡ h) → Evaluates rules run (Err h) s → Evaluates rules run x s
exits {B} {rules} {run} {s} {h} {x} i e = let p = err_from_is_err_and x i in rw (p.1, p.2) e

pub ruleset evaluating = (gives, ends, wants_memory, breaks_off, goes_on, stops_at, passes)
