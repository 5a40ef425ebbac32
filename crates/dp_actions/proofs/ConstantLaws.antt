-- What is done with constants, as a call answers it.
use Rattle.std.proofs.Common.{◌≡◌, ◌≢◌, ℕ, Bool, true, false, not, ◌||◌, if◌then◌else◌, List, [], ◌∷◌, length, get_or, Option, Some, is_some, Ok, refl, sym, ap, ◌∙◌, arith}
use Rattle.dp_lexer.specs.Names.{is_given}
use Rattle.dp_value.specs.declared.value.Value.{Value}
use Rattle.dp_value.specs.declared.value.Value.TheVariants.{Bool as Truth, Text}
use Rattle.dp_state.specs.declared.moments.FatalKind.TheVariants.{Arguments, Unsupported}
use Rattle.dp_state.specs.declared.state.State.{State}
use Rattle.dp_state.specs.Constants.{constant, with_constant}
use Rattle.dp_actions.specs.AtOnce.{AtOnce}
use Rattle.dp_actions.specs.Constants.{define_as, define_run, defined_as, defined_run, defining, is_literal, read_constant}
use Rattle.dp_actions.specs.Run.{Done, fatal}
use Rattle.dp_actions.proofs.AtOnceLaws.{gives}

-- a constant that is there is read
pub read_there : (found : Option Value) (v : Value) (s : State) → found ≡ Some v
    → AtOnce (read_constant found s) (Ok v) s
read_there found v s e = rw e gives

-- a constant of a name that a program may give: it was defined where it was not there
pub defining-done : (name own : List ℕ) (v w : Value) (new : Bool) (s t : State) → own ≡ name → w ≡ v
    → is_given name ≡ true → new ≡ not (is_some (constant own s)) → t ≡ with_constant own w s
    → AtOnce (defining name v s) (Ok (Truth new)) t
defining-done name own v w new s t named same given is left = record {
  leaves =
      ap (λ b. if b then Done (Truth (not (is_some (constant name s)))) (with_constant name v s)
      else fatal Unsupported s) given
      ∙ ap (λ (n : List ℕ). Done (Truth (not (is_some (constant n s)))) (with_constant n v s)) (sym named)
      ∙ ap (λ (x : Value). Done (Truth (not (is_some (constant own s)))) (with_constant own x s)) (sym same)
      ∙ ap (λ (b : Bool). Done (Truth b) (with_constant own w s)) (sym is)
      ∙ ap (λ (u : State). Done (Truth new) u) (sym left);
}

-- whether a constant is there whose name is none of `true`, `false` and `null`
pub defined-done : (name own : List ℕ) (there : Bool) (s : State) → own ≡ name → is_literal name ≡ false
    → there ≡ is_some (constant own s) → AtOnce (defined_as (Text name) s) (Ok (Truth there)) s
defined-done name own there s named plain is = record {
  leaves =
      ap (λ (b : Bool). Done (Truth (b || is_some (constant name s))) s) plain
      ∙ ap (λ (n : List ℕ). Done (Truth (is_some (constant n s))) s) (sym named)
      ∙ ap (λ (b : Bool). Done (Truth b) s) (sym is);
}

-- ---- how many values there are

pub define-two : (values : List Value) (a b : Value) (s : State) → length values ≡ 2 → a ≡ get_or values 0 a
    → b ≡ get_or values 1 b → define_run values s ≡ define_as a b s
define-two [] a b s two first second = absurd (omega arith)
define-two (x ∷ []) a b s two first second = absurd (omega arith)
define-two (x ∷ y ∷ []) a b s two first second =
    ap (λ (v : Value). define_as v y s) (sym first) ∙ ap (λ (v : Value). define_as a v s) (sym second)
define-two (x ∷ y ∷ z ∷ more) a b s two first second = absurd (omega arith)

pub define-other : (values : List Value) (s : State) → length values ≢ 2 → define_run values s ≡ fatal Arguments s
define-other [] s other = refl
define-other (x ∷ []) s other = refl
define-other (x ∷ y ∷ []) s other = absurd (other refl)
define-other (x ∷ y ∷ z ∷ more) s other = refl

pub defined-one : (values : List Value) (a : Value) (s : State) → length values ≡ 1 → a ≡ get_or values 0 a
    → defined_run values s ≡ defined_as a s
defined-one [] a s one first = absurd (omega arith)
defined-one (x ∷ []) a s one first = ap (λ (v : Value). defined_as v s) (sym first)
defined-one (x ∷ y ∷ more) a s one first = absurd (omega arith)

pub defined-other : (values : List Value) (s : State) → length values ≢ 1 → defined_run values s ≡ fatal Arguments s
defined-other [] s other = refl
defined-other (x ∷ []) s other = absurd (other refl)
defined-other (x ∷ y ∷ more) s other = refl
