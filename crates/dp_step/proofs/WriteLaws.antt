-- A write or an evaluation at a moment, by what it comes to.
use Rattle.std.proofs.Common.{◌≡◌, ℕ, zero, suc, Bool, true, false, List, [], ◌∷◌, ◌++◌, length, ◌-◌, ◌<◌, ◌≤◌, Result, Ok, Err, refl, sym, ap, ◌∙◌, arith}
use Rattle.std.proofs.lemmas.Bool.Decides.{nat_tests}
use Rattle.dp_state.specs.Places.{assigned, given_keys}
use Rattle.std.specs.Prelude.{if◌then◌else◌, nat_lt, OnOk}
use Rattle.dp_value.specs.declared.value.Value.{Value}
use Rattle.dp_tree.specs.declared.bundle.Bundle.{Bundle}
use Rattle.dp_tree.specs.declared.tree.Expression.{Expression}
use Rattle.dp_state.specs.declared.moments.Path.{Path}
use Rattle.dp_state.specs.declared.state.State.{State}
use Rattle.dp_meaning.specs.declared.writes.NumberedWrite.{NumberedWrite}
use Rattle.dp_meaning.specs.declared.writes.Write.TheVariants.{Place, Evaluate}
use Rattle.dp_meaning.specs.declared.writes.WriteFault.{WriteFault}
use Rattle.dp_meaning.specs.declared.writes.WriteFault.TheVariants.{NoFrame, NoPlace}
use Rattle.dp_meaning.specs.Writes.{evaluated, evaluation_setting, in_context, left_by, or_unchanged, place_or_fault, with_place}
use Rattle.dp_step.specs.declared.machine.Machine.{Machine}
use Rattle.dp_step.specs.declared.errors.StepError.{StepError}
use Rattle.dp_step.specs.Stands.{StandsFor}
use Rattle.dp_step.specs.Written.{Evaluates, Writes}
use Rattle.dp_step.proofs.WritesMade.{one-made}

module _ (path : Path) (value : Value) (s : State) (level context : ℕ) where
  abbrev at_level : ℕ → Result State WriteFault
  at_level home = place_or_fault (assigned home path.name (given_keys path.keys) false value s)

  by_frame : (b : Bool) → nat_lt level (length s.frames) ≡ b → with_place level context path value s
      ≡ (if b then in_context context level path value s else Err NoFrame)
  by_frame b e = ap (λ b. if b then in_context context level path value s else Err NoFrame) e

  in-frame : level < length s.frames → with_place level context path value s ≡ in_context context level path value s
  in-frame there = by_frame true (grind (arith, nat_tests, there))

  pub no-frame : length s.frames ≤ level → with_place level context path value s ≡ Err NoFrame
  no-frame past = by_frame false (grind (arith, nat_tests, past))

  pub local : level < length s.frames → context ≡ 0 → with_place level context path value s ≡ at_level level
  local there e = in-frame there ∙ ap (λ n. in_context n level path value s) e

  pub global : level < length s.frames → context ≡ 1
      → with_place level context path value s ≡ at_level (length s.frames - 1)
  global there e = in-frame there ∙ ap (λ n. in_context n level path value s) e

  beyond : (n : ℕ) → (n ≡ 0 → ⊥) → (n ≡ 1 → ⊥) → in_context n level path value s ≡ Err NoPlace
  beyond zero some more = absurd (some refl)
  beyond (suc zero) some more = absurd (more refl)
  beyond (suc (suc n)) some more = refl

  pub nowhere : level < length s.frames → (context ≡ 0 → ⊥) → (context ≡ 1 → ⊥)
      → with_place level context path value s ≡ Err NoPlace
  nowhere there some more = in-frame there ∙ beyond context some more

-- a write that is made is one of the writes of the moment
pub write-stands : (level context : ℕ) (path : Path) (value : Value) (result : Result Unit StepError)
    (old new : Machine)
    → Writes (with_place level context path value old.state) result old new
    → OnOk result ((bundle : Bundle) (bound : ℕ) (writes : List NumberedWrite) (n : ℕ)
    → StandsFor bundle bound writes (suc n) old
    → StandsFor bundle bound (writes ++ record { moment = suc n; write = Place level context path value } ∷ [])
    (suc n) new)
write-stands level context path value (Ok done) old new h = λ bundle bound writes n stands.
    one-made bundle bound writes n (Place level context path value) old new stands h.1
    (sym (ap (or_unchanged old.state) h.0))
write-stands level context path value (Err why) old new h = tt

-- the same of an evaluation
pub evaluate-stands : (e : Expression) (result : Result Value StepError) (old new : Machine)
    → Evaluates (evaluated (evaluation_setting old.bundle.now) e old.state) result old new
    → OnOk result ((bundle : Bundle) (bound : ℕ) (writes : List NumberedWrite) (n : ℕ)
    → StandsFor bundle bound writes (suc n) old
    → StandsFor bundle bound (writes ++ record { moment = suc n; write = Evaluate e } ∷ []) (suc n) new)
evaluate-stands e (Ok v) old new h = λ bundle bound writes n stands.
    one-made bundle bound writes n (Evaluate e) old new stands h.1 (sym (ap (left_by old.state) h.0))
evaluate-stands e (Err why) old new h = tt
