-- What a write answers tells what it leaves.
use Rattle.std.proofs.Common.{◌≡◌, ◌≢◌, ℕ, Option, Some, None, Result, Ok, Err, refl, sym, ap}
use Rattle.std.specs.Prelude.{◌↔◌}
use Rattle.dp_tree.specs.declared.tree.Expression.{Expression}
use Rattle.dp_value.specs.declared.value.Value.{Value}
use Rattle.dp_state.specs.declared.moments.Path.{Path}
use Rattle.dp_state.specs.declared.state.State.{State}
use Rattle.dp_meaning.specs.declared.writes.Write.{Write}
use Rattle.dp_meaning.specs.declared.writes.Write.TheVariants.{Place, Evaluate}
use Rattle.dp_meaning.specs.declared.writes.WriteAnswer.TheVariants as answer
use Rattle.dp_meaning.specs.declared.writes.WriteFault.{WriteFault}
use Rattle.dp_meaning.specs.declared.writes.WriteFault.TheVariants.{NoFrame, NoPlace}
use Rattle.dp_actions.specs.Setting.{Setting}
use Rattle.dp_meaning.specs.Writes.{answer_in, evaluated, left_by, one_write, or_unchanged, place_answer, value_answer, with_place}

-- ---- places

placed : (r : Result State WriteFault) (s : State) → (place_answer r ≡ answer.Set) ↔ (r ≡ Ok (or_unchanged s r))
placed (Ok t) s = (λ h. refl, λ h. refl)
placed (Err NoFrame) s = (λ h. absurd (cc), λ h. absurd (cc))
placed (Err NoPlace) s = (λ h. absurd (cc), λ h. absurd (cc))

unplaced : (r : Result State WriteFault) (s : State) → place_answer r ≢ answer.Set → or_unchanged s r ≡ s
unplaced (Ok t) s never = absurd (never refl)
unplaced (Err fault) s never = refl

-- ---- evaluations

given : (o : Option (Value × State)) (v : Value) (s : State)
    → (value_answer o ≡ answer.Value v) ↔ (o ≡ Some (v, left_by s o))
given None v s = (λ h. absurd (cc), λ h. absurd (cc))
given (Some end) v s = (
  λ h. let same : end.0 ≡ v = cc in rw (sym same) refl,
  λ h. let same : end ≡ (v, end.1) = cc in ap
      (λ (p : Value × State). answer.Value p.0) same,
)

ungiven : (o : Option (Value × State)) (s : State) → ((v : Value) → value_answer o ≢ answer.Value v) → left_by s o ≡ s
ungiven None s never = refl
ungiven (Some end) s never = absurd (never end.0 refl)

-- ---- writes

pub place-told : (setting : Setting) (level context : ℕ) (path : Path) (value : Value) (s : State)
    → (answer_in setting (Place level context path value) s ≡ answer.Set)
    ↔ (with_place level context path value s ≡ Ok (one_write setting (Place level context path value) s))
place-told setting level context path value s = placed (with_place level context path value s) s

pub value-told : (setting : Setting) (e : Expression) (v : Value) (s : State)
    → (answer_in setting (Evaluate e) s ≡ answer.Value v) ↔ (evaluated setting e s ≡ Some
    (v, one_write setting (Evaluate e) s))
value-told setting e v s = given (evaluated setting e s) v s

pub other-told : (setting : Setting) (w : Write) (s : State) → answer_in setting w s ≢ answer.Set
    → ((v : Value) → answer_in setting w s ≢ answer.Value v) → one_write setting w s ≡ s
other-told setting (Place level context path value) s unset unvalued =
    unplaced (with_place level context path value s) s unset
other-told setting (Evaluate e) s unset unvalued = ungiven (evaluated setting e s) s unvalued
