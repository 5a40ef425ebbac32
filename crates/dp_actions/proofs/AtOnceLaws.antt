-- What is done at once, in parts.
use Rattle.std.proofs.Common.{◌≡◌, Result, Ok, Err, refl, sym, ap, subst}
use Rattle.std.specs.Result.{IsErrAnd}
use Rattle.std.proofs.lemmas.Result.{err_from_is_err_and}
use Rattle.dp_state.specs.declared.moments.Outcome.{Outcome}
use Rattle.dp_state.specs.declared.state.State.{State}
use Rattle.dp_actions.specs.declared.halt.Halt.{Halt}
use Rattle.dp_actions.specs.declared.halt.Halt.TheVariants.{Memory, Finished, Stopped}
use Rattle.dp_actions.specs.After.{Then}
use Rattle.dp_actions.specs.AtOnce.{AtOnce, EndsSurely, Leaves}
use Rattle.dp_actions.specs.Run.{Run, Done, Over, and_then}

module _ {A : Type 0} where
  pub gives : {a : A} {s : State} → AtOnce (Done a s) (Ok a) s
  gives = record { leaves = refl }

  pub ends : {o : Outcome} {s : State} → AtOnce {A = A} (Over o s) (Err (Finished o)) s
  ends = record { leaves = refl }

  pub wants_memory : {r : Run A} {s : State} → AtOnce r (Err Memory) s
  wants_memory = record { leaves = tt }

-- ---- what is answered whatever memory there is

module _ {A : Type 0} where
  pub surely_done : {a : A} {s : State} {r : Result A Halt} → EndsSurely (Done a s) r
  surely_done o t is = cc

  pub surely_over : {o : Outcome} {s : State} → EndsSurely {A = A} (Over o s) (Err (Finished o))
  surely_over {o} p t is =
      let same : o ≡ p = cc in
      ap (λ (q : Outcome). let r : Result A Halt = Err (Finished q) in r) same

-- ---- one part after another

-- the first part breaks off
off : {A B : Type 0} (h : Halt) (s : State) (r : Run A) (next : A → State → Run B) → Leaves {A = A} r (Err h) s
    → Leaves {A = B} (and_then r next) (Err h) s
unfolding and_then
off Memory s r next l = tt
off (Finished o) s r next l = ap (λ z. and_then z next) l
off (Stopped moment) s r next l = l

module _ {A B : Type 0} where
  pub breaks_off : {h : Halt} {s : State} {r : Run A} (next : A → State → Run B) → AtOnce r (Err h) s
      → AtOnce (and_then r next) (Err h) s
  breaks_off {h} {s} {r} next e = record { leaves = off h s r next e.leaves }

  -- a first part that gives something is left out
  pub first_done : {a : A} {s : State} {r : Run A} (next : A → State → Run B) → AtOnce r (Ok a) s
      → and_then r next ≡ next a s
  unfolding and_then
  first_done next e = ap (λ z. and_then z next) e.leaves

  -- the first part gives something, and then the second is done
  pub goes_on : {a : A} {s t : State} {r : Run A} (next : A → State → Run B) {x : Result B Halt}
      → AtOnce r (Ok a) s → AtOnce (next a s) x t → AtOnce (and_then r next) x t
  goes_on {a} {s} {t} {r} next {x} e f = subst (λ z. AtOnce z x t) (sym (first_done next e)) f

-- what the exit of a `?` returns
pub exits : {B : Type 0} {run : Run B} {s : State} (h : Halt) (x : Result B Halt) → IsErrAnd x (λ y. y ≡ h)
    → AtOnce run (Err h) s → AtOnce run x s
exits {B} {run} {s} h x i e = let p = err_from_is_err_and x i in rw (p.1, p.2) e

-- what is done with what an evaluation answers: it gave something, or broke off
module _ {A B : Type 0} {answer : Result A Halt} {next : A → State → Run B} {s : State} where
  pub then_ok : {a : A} {x : Result B Halt} {t : State} → answer ≡ Ok a → AtOnce (next a s) x t
      → Then answer next s x t
  then_ok is e = record { done = rw is e }

  pub then_err : {h : Halt} {x : Result B Halt} → answer ≡ Err h → IsErrAnd x (λ y. y ≡ h) → Then answer next s x s
  then_err {h} {x} is i = let p = err_from_is_err_and x i in record { done = rw is (rw (p.1, p.2) refl, refl) }

pub ruleset acting = (gives, ends, wants_memory, surely_done, surely_over, breaks_off, goes_on)
