-- What is done at once, one after another, where a part answers what it gives or why it breaks off.
use Rattle.std.proofs.Common.{◌≡◌, ℕ, suc, ◌+◌, ◌<◌, List, [], ◌∷◌, ◌++◌, length, get_or, drop, drop-cons, add-one, Result, Ok, Err, sym, ap, ◌∙◌, subst, append_assoc, append-nil}
use Rattle.dp_state.specs.declared.state.State.{State}
use Rattle.dp_tree.specs.declared.tree.Expression.{Expression}
use Rattle.dp_value.specs.declared.value.Value.{Value}
use Rattle.dp_actions.specs.declared.halt.Halt.{Halt}
use Rattle.dp_actions.specs.After.{DoneThen, Then}
use Rattle.dp_actions.specs.AtOnce.{AtOnce}
use Rattle.dp_actions.specs.Expressions.{evaluation, evaluations}
use Rattle.dp_actions.specs.Run.{Run, Done, and_then}
use Rattle.dp_actions.specs.Setting.{Setting}
use Rattle.dp_actions.proofs.AtOnceLaws.{breaks_off, first_done, gives, goes_on}
use Rattle.dp_actions.proofs.Runs.{and_then-assoc, and_then-Done}

-- the elements from one on
pub front : {X : Type 0} (xs : List X) (i : ℕ) (x : X) → i < length xs → x ≡ get_or xs i x
    → drop i xs ≡ x ∷ drop (i + 1) xs
front xs i x within is = rw (add-one, drop-cons xs i x) (ap (λ y. y ∷ drop (suc i) xs) (sym is))

-- the first part, and what is done at once with what it gives
module _ {A B : Type 0} (r : Run A) (next : A → State → Run B) (s t : State) (x : Result B Halt) where
  then-by : (operand : Result A Halt) → AtOnce r operand s → DoneThen operand next s x t → AtOnce (and_then r next) x t
  then-by (Ok a) e h = goes_on next e h
  then-by (Err why) e h = rw (h.0, h.1) (breaks_off next e)

pub then_on : {A B : Type 0} {r : Run A} {next : A → State → Run B} {s t : State} {x : Result B Halt}
    {operand : Result A Halt} → AtOnce r operand s → Then operand next s x t → AtOnce (and_then r next) x t
then_on {A} {B} {r} {next} {s} {t} {x} {operand} e h = then-by r next s t x operand e h.done

-- the first two of three parts, joined
module _ {A B C : Type 0} (r : Run A) (f : A → State → Run B) (next : B → State → Run C) where
  pub joined_off : {h : Halt} {s : State} → AtOnce (and_then r f) (Err h) s
      → AtOnce (and_then r (λ a u. and_then (f a u) next)) (Err h) s
  joined_off {h} {s} e = subst (λ z. AtOnce z (Err h) s) (and_then-assoc r f next) (breaks_off next e)

  pub joined_done : {b : B} {s : State} → AtOnce (and_then r f) (Ok b) s
      → and_then r (λ a u. and_then (f a u) next) ≡ next b s
  joined_done e = sym (and_then-assoc r f next) ∙ first_done next e

  pub joined_to : {b : B} {s : State} {q : Run C} → AtOnce (and_then r f) (Ok b) s → next b s ≡ q
      → and_then r (λ a u. and_then (f a u) next) ≡ q
  joined_to e same = joined_done e ∙ same

  pub joined_on : {b : B} {s t : State} {x : Result C Halt} → AtOnce (and_then r f) (Ok b) s → AtOnce (next b s) x t
      → AtOnce (and_then r (λ a u. and_then (f a u) next)) x t
  joined_on {b} {s} {t} {x} e k = subst (λ z. AtOnce z x t) (sym (joined_done e)) k

-- ---- values of expressions, where some are there

abbrev pub more_values : List Expression → List Value → Setting → State → Run (List Value)
more_values es done setting s = and_then (evaluations es setting s) (λ values t. Done (done ++ values) t)

module _ (setting : Setting) (s : State) where
  pub values-first : (es : List Expression) → evaluations es setting s ≡ more_values es [] setting s
  values-first es = sym (and_then-Done (evaluations es setting s))

  pub values-all : (done : List Value) → AtOnce (more_values [] done setting s) (Ok done) s
  unfolding and_then
  values-all done = subst (λ l. AtOnce (Done l s) (Ok done) s) (sym (append-nil done)) gives

  module _ (e : Expression) (es : List Expression) (done : List Value) where
    pub values-break : (h : Halt) → AtOnce (evaluation e setting s) (Err h) s
        → AtOnce (more_values (e ∷ es) done setting s) (Err h) s
    values-break h ev = breaks_off _ (breaks_off _ ev)

    joined : (v : Value)
        → and_then (and_then (evaluations es setting s) (λ values w. Done (v ∷ values) w)) (λ values w. Done
        (done ++ values) w)
        ≡ more_values es (done ++ v ∷ []) setting s
    unfolding and_then
    joined v =
        and_then-assoc (evaluations es setting s) (λ values w. Done (v ∷ values) w)
        (λ values w. Done (done ++ values) w)
        ∙ (λ i. and_then (evaluations es setting s) (λ values w. Done (sym (append_assoc done (v ∷ []) values) i) w))

    pub values-more : (v : Value) → AtOnce (evaluation e setting s) (Ok v) s
        → more_values (e ∷ es) done setting s ≡ more_values es (done ++ v ∷ []) setting s
    values-more v ev =
        ap (λ r. and_then r (λ values w. Done (done ++ values) w)) (first_done _ ev) ∙ joined v
