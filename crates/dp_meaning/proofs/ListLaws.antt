-- Lists of parts, one element after another.
use Rattle.std.proofs.Common.{◌≡◌, Bool, true, eqb-true, ℕ, zero, suc, ◌+◌, ◌<◌, List, [], ◌∷◌, ◌++◌, length, map, get_or, drop, drop-cons, add-one, Some, slice_get, arith, Result, Ok, Err, refl, sym, ap, ◌∙◌, subst, append_assoc, append-nil}
use Rattle.std.specs.Prelude.{nat_eq}
use Rattle.std.proofs.lemmas.List.{nil_from_length}
use Rattle.dp_state.specs.Constants.{with_constant}
use Rattle.dp_state.specs.declared.state.State.{State}
use Rattle.dp_tree.specs.declared.tree.Definition.{Definition}
use Rattle.dp_tree.specs.declared.tree.Expression.{Expression}
use Rattle.dp_tree.specs.declared.tree.Place.{Place}
use Rattle.dp_value.specs.declared.value.Value.{Value}
use Rattle.dp_actions.specs.declared.halt.Halt.{Halt}
use Rattle.dp_actions.specs.declared.signal.Signal.{Signal}
use Rattle.dp_meaning.specs.declared.evaluator.Evaluator.{Evaluator}
use Rattle.dp_meaning.specs.inner.Drive.{Rules, Evaluates}
use Rattle.dp_meaning.specs.inner.Evaluation.{goes_by}
use Rattle.dp_actions.specs.Expressions.{evaluation, evaluations, place_run}
use Rattle.dp_actions.specs.Places.{isset_run, missing_at, missing_run}
use Rattle.dp_actions.specs.Run.{Run, Done, and_then}
use Rattle.dp_actions.specs.Setting.{Setting}
use Rattle.dp_actions.specs.Statements.{constants_run}
use Rattle.dp_meaning.proofs.Drives.{gives, breaks_off, goes_on, joined_off, joined_on}
use Rattle.dp_actions.proofs.MissingPlaces.{isset-on, isset-place}
use Rattle.dp_actions.proofs.Runs.{and_then-assoc, and_then-Done}

-- a slice that is empty has no items
pub no_items : {X : Type 0} {items slice : List X} {empty : Bool} → slice ≡ items
    → empty ≡ nat_eq (length slice) 0 → empty ≡ true → items ≡ []
no_items {X} {items} {slice} same test empty-is =
    sym same ∙ nil_from_length slice (eqb-true (length slice) 0 (sym test ∙ empty-is))

-- the elements from one on
pub front : {X : Type 0} (xs : List X) {i : ℕ} {x : X} → i < length xs → x ≡ get_or xs i x
    → drop i xs ≡ x ∷ drop (i + 1) xs
front {X} xs {i} {x} within is = rw (add-one, drop-cons xs i x) (ap (λ y. y ∷ drop (suc i) xs) (sym is))

-- the element at a position, and the elements from there on
pub front-at : {X : Type 0} (xs : List X) (i : ℕ) → i < length xs
    → (x : X) × (slice_get xs i ≡ Some x) × (drop i xs ≡ x ∷ drop (suc i) xs)
front-at [] i h = absurd (omega arith)
front-at (y ∷ ys) zero h = (y, refl, refl)
front-at (y ∷ ys) (suc i) h = let r = front-at ys i (omega arith) in (r.0, r.1, r.2)

-- ---- values of expressions, where some are there

abbrev pub more_values : List Expression → List Value → Setting → State → Run (List Value)
more_values es done setting s = and_then (evaluations es setting s) (λ values t. Done (done ++ values) t)

module _ (rules : Rules) (setting : Setting) where
  pub values-first : (es : List Expression) (s : State) (x : Result (List Value) Halt) (t : State)
      → Evaluates rules (more_values es [] setting s) x t → Evaluates rules (evaluations es setting s) x t
  values-first es s x t e = subst (λ r. Evaluates rules r x t) (and_then-Done (evaluations es setting s)) e

  pub values-all : (done : List Value) (s : State) → Evaluates rules (more_values [] done setting s) (Ok done) s
  unfolding and_then
  values-all done s = subst (λ l. Evaluates rules (Done l s) (Ok done) s) (sym (append-nil done)) gives

  module _ (e : Expression) (es : List Expression) (done : List Value) (s t : State) where
    pub values-break : (h : Halt) → Evaluates rules (evaluation e setting s) (Err h) t
        → Evaluates rules (more_values (e ∷ es) done setting s) (Err h) t
    values-break h ev = breaks_off _ (breaks_off _ ev)

    joined : (v : Value) (u : State)
        → and_then (and_then (evaluations es setting u) (λ values w. Done (v ∷ values) w)) (λ values w. Done
        (done ++ values) w)
        ≡ more_values es (done ++ v ∷ []) setting u
    unfolding and_then
    joined v u =
        and_then-assoc (evaluations es setting u) (λ values w. Done (v ∷ values) w)
        (λ values w. Done (done ++ values) w)
        ∙ (λ i. and_then (evaluations es setting u) (λ values w. Done (sym (append_assoc done (v ∷ []) values) i) w))

    pub values-more : (v : Value) (x : Result (List Value) Halt) (u : State)
        → Evaluates rules (evaluation e setting s) (Ok v) t
        → Evaluates rules (more_values es (done ++ v ∷ []) setting t) x u
        → Evaluates rules (more_values (e ∷ es) done setting s) x u
    values-more v x u ev more =
        subst (λ r. Evaluates rules r x u) (sym (and_then-assoc (evaluation e setting s) _
        (λ values w. Done (done ++ values) w)))
        (goes_on _ ev (subst (λ r. Evaluates rules r x u) (sym (joined v t)) more))

-- ---- `const`, by what its first constant comes to

abbrev define-first : Definition → Value → State → Run Unit
define-first first v s = Done tt (with_constant first.name v s)

abbrev definitions-left : List Definition → Setting → Unit {0} → State → Run Signal
definitions-left rest setting _ u = constants_run rest setting u

module _ {rules : Rules} (all : List Definition) {i : ℕ} {first : Definition} (within : i < length all)
    (is : first ≡ get_or all i first) (setting : Setting) (s : State) where
  pub constant_off : {h : Halt} {t : State}
      → Evaluates rules (and_then (evaluation first.value setting s) (define-first first)) (Err h) t
      → Evaluates rules (constants_run (drop i all) setting s) (Err h) t
  unfolding and_then
  constant_off e =
      rw (front all within is) (joined_off (evaluation first.value setting s) (define-first first)
      (definitions-left (drop (i + 1) all) setting) e)

  pub constant_on : {t u : State} {x : Result Signal Halt}
      → Evaluates rules (and_then (evaluation first.value setting s) (define-first first)) (Ok tt) t
      → Evaluates rules (constants_run (drop (i + 1) all) setting t) x u
      → Evaluates rules (constants_run (drop i all) setting s) x u
  unfolding and_then
  constant_on e k =
      rw (front all within is) (joined_on (evaluation first.value setting s) (define-first first)
      (definitions-left (drop (i + 1) all) setting) e k)

-- ---- isset, by whether its first place is missing

module _ {O : Type 0} (place : Place) (places : List Place) (by : Evaluator O) where
  -- the rest, once it is known whether the first place is missing
  abbrev pub isset-rest : Bool → State → Run Value
  isset-rest = isset-on (place_run place) (map place_run places) (goes_by by)

  isset-first : (s : State) → isset_run (place_run place ∷ map place_run places) (goes_by by) s
      ≡ and_then ((place_run place).indices (goes_by by) s) (λ indices t.
      and_then (missing_run (place_run place).name indices t) isset-rest)
  isset-first s = isset-place (place_run place) (map place_run places) (goes_by by) s

  pub place_off : {rules : Rules} (s : State) {h : Halt} {t : State}
      → Evaluates rules (missing_at (place_run place) (goes_by by) s) (Err h) t
      → Evaluates rules (isset_run (place_run place ∷ map place_run places) (goes_by by) s) (Err h) t
  place_off {rules} s {h} {t} e =
      subst (λ z. Evaluates rules z (Err h) t) (sym (isset-first s))
      (joined_off ((place_run place).indices (goes_by by) s)
      (λ indices u. missing_run (place_run place).name indices u) isset-rest e)

  pub place_on : {rules : Rules} (s : State) {missing : Bool} {t u : State} {x : Result Value Halt}
      → Evaluates rules (missing_at (place_run place) (goes_by by) s) (Ok missing) t
      → Evaluates rules (isset-rest missing t) x u
      → Evaluates rules (isset_run (place_run place ∷ map place_run places) (goes_by by) s) x u
  place_on {rules} s {missing} {t} {u} {x} e k =
      subst (λ z. Evaluates rules z x u) (sym (isset-first s)) (joined_on
      ((place_run place).indices (goes_by by) s) (λ indices u. missing_run (place_run place).name indices u)
      isset-rest e k)
