-- Lists of parts, by the first of them.
use Rattle.std.proofs.Common.{◌≡◌, ℕ, suc, ◌+◌, Bool, true, false, List, [], ◌∷◌, ◌++◌, map, drop, length, get_or, ◌<◌, Some, None, refl, sym, ap, ◌∙◌, append-nil, arith, drop-cons}
use Rattle.std.specs.Prelude.{if◌then◌else◌, Result}
use Rattle.dp_value.specs.declared.errors.ValueError.{ValueError}
use Rattle.dp_tree.specs.declared.operators.BinaryOp.{BinaryOp}
use Rattle.dp_value.specs.declared.value.Value.{Value}
use Rattle.dp_value.specs.declared.value.Value.TheVariants as value
use Rattle.dp_value.specs.Data.{Data}
use Rattle.dp_value.specs.Entry.{write_result}
use Rattle.dp_value.specs.Value.{data_of}
use Rattle.dp_operations.specs.Binary.{binary_of}
use Rattle.dp_tree.specs.declared.tree.Expression.{Expression}
use Rattle.dp_tree.specs.declared.tree.Item.{Item}
use Rattle.dp_tree.specs.declared.tree.Link.{Link}
use Rattle.dp_tree.specs.declared.tree.Operator.TheVariants.{Or, And, Of}
use Rattle.dp_tree.specs.declared.tree.Place.{Place}
use Rattle.dp_state.specs.declared.state.State.{State}
use Rattle.dp_actions.specs.declared.signal.Signal.{Signal}
use Rattle.dp_actions.specs.Expressions.{evaluation, evaluations, expression_run, indices_run, items_run, keyed_run, links_run, operator_run, place_run}
use Rattle.dp_actions.specs.Expressions.{item_run_of, link_run}
use Rattle.dp_actions.specs.Places.{PlaceRun, found_run, isset_run, missing_run}
use Rattle.dp_actions.proofs.MissingPlaces.{missing-then}
use Rattle.dp_actions.specs.Run.{Run, Done, and_then, ◌>>=◌}
use Rattle.dp_actions.specs.Setting.{Setting}
use Rattle.dp_actions.specs.Values.{holds, is_missing, value_run, write_run}
use Rattle.dp_actions.proofs.Runs.{and_then-assoc}
use Rattle.dp_actions.proofs.Layers.{run-item-None, run-item-Some, run-link, run-place}
use Rattle.dp_small_steps.specs.declared.work.Given.TheVariants as given
use Rattle.dp_small_steps.specs.Parts.{Follows, keyed_after, to_value}

-- the part of a list from a position on, by the member at that position
pub from-member : {A : Type 0} (l : List A) (n : ℕ) (x : A) → n < length l → x ≡ get_or l n x
    → drop n l ≡ x ∷ drop (n + 1) l
from-member l n x h e =
    let next : n + 1 ≡ suc n = omega arith in
    drop-cons l n x h ∙ ap (λ y. y ∷ drop (suc n) l) (sym e) ∙ ap (λ m. x ∷ drop m l) (sym next)

module _ (setting : Setting) (k : Follows) (s : State) where
  -- ---- values

  pub values-none : (before : List Value)
      → (evaluations [] setting s >>= λ values t. k (given.Values (before ++ values)) t) ≡ k (given.Values before) s
  unfolding and_then
  values-none before = ap (λ l. k (given.Values l) s) (append-nil before)

  values-rest : (rest : List Expression) (before : List Value) (v : Value) (t : State)
      → ((evaluations rest setting t >>= λ values u. Done (v ∷ values) u)
      >>= λ values u. k (given.Values (before ++ values)) u)
      ≡ (evaluations rest setting t >>= λ values u. k (given.Values (before ++ v ∷ values)) u)
  unfolding and_then
  values-rest rest before v t =
      and_then-assoc (evaluations rest setting t) (λ values u. Done (v ∷ values) u)
      (λ values u. k (given.Values (before ++ values)) u)

  pub values-first : (first : Expression) (rest : List Expression) (before : List Value)
      → (evaluations (first ∷ rest) setting s >>= λ values t. k (given.Values (before ++ values)) t)
      ≡ (evaluation first setting s >>= λ v t. evaluations rest setting t
      >>= λ values u. k (given.Values (before ++ v ∷ values)) u)
  values-first first rest before =
      and_then-assoc (evaluation first setting s) (λ v t. evaluations rest setting t
      >>= λ values u. Done (v ∷ values) u) (λ values t. k (given.Values
      (before ++ values)) t)
      ∙ (λ i. evaluation first setting s >>= λ v t. values-rest rest before v t i)

  -- ---- items

  pub items-first : (first : Item) (rest : List Item) (array : Value)
      → (items_run (map item_run_of (first ∷ rest)) array setting s >>= to_value k)
      ≡ (item_run_of first array setting s >>= λ longer t. items_run (map item_run_of rest) longer setting t
      >>= to_value k)
  items-first first rest array =
      and_then-assoc (item_run_of first array setting s) (λ longer t. items_run (map item_run_of rest) longer setting t)
      (to_value k)

  module _ (next : Value → State → Run Signal) (item : Item) (array : Value) where
    pub item-plain : item.key ≡ None → (item_run_of item array setting s >>= next)
        ≡ (evaluation item.value setting s >>= λ v t. write_run (write_result [] true (data_of v) (data_of array)) t
        >>= next)
    item-plain e = ap (λ part. part array setting s >>= next) (run-item-None item e) ∙ and_then-assoc _ _ _

    pub item-keyed : (key : Expression) → item.key ≡ Some key → (item_run_of item array setting s >>= next)
        ≡ (evaluation key setting s >>= λ at t. keyed_run at (expression_run item.value) array setting t >>= next)
    item-keyed key e = ap (λ part. part array setting s >>= next) (run-item-Some item key e) ∙ and_then-assoc _ _ _

  -- ---- operands

  pub links-first : (first : Link) (rest : List Link) (left : Value)
      → (links_run (map link_run (first ∷ rest)) left setting s >>= to_value k)
      ≡ (link_run first left setting s >>= λ v t. links_run (map link_run rest) v setting t >>= to_value k)
  links-first first rest left =
      and_then-assoc (link_run first left setting s) (λ v t. links_run (map link_run rest) v setting t) (to_value k)

  module _ (next : Value → State → Run Signal) (link : Link) (left : Value) where
    by_link : (link_run link left setting s
        >>= next) ≡ (operator_run link.operator (expression_run link.operand) left setting s >>= next)
    by_link = ap (λ part. part left setting s >>= next) (run-link link)

    or-true : link.operator ≡ Or → holds left ≡ true
        → (link_run link left setting s >>= next) ≡ next (value.Bool true) s
    unfolding and_then
    or-true e h = by_link ∙ rw (e, h) refl

    or-false : link.operator ≡ Or → holds left ≡ false
        → (link_run link left setting s >>= next) ≡ (evaluation link.operand setting s
        >>= λ v t. next (value.Bool (holds v)) t)
    unfolding and_then
    or-false e h =
        by_link ∙ rw (e, h) (and_then-assoc (evaluation link.operand setting s)
        (λ v t. Done (value.Bool (holds v)) t) next)

    and-false : link.operator ≡ And → holds left ≡ false
        → (link_run link left setting s >>= next) ≡ next (value.Bool false) s
    unfolding and_then
    and-false e h = by_link ∙ rw (e, h) refl

    and-true : link.operator ≡ And → holds left ≡ true
        → (link_run link left setting s >>= next) ≡ (evaluation link.operand setting s
        >>= λ v t. next (value.Bool (holds v)) t)
    unfolding and_then
    and-true e h =
        by_link ∙ rw (e, h) (and_then-assoc (evaluation link.operand setting s)
        (λ v t. Done (value.Bool (holds v)) t) next)

    pub or-either : link.operator ≡ Or → (b : Bool) → holds left ≡ b
        → (if b then next (value.Bool true) s
        else (evaluation link.operand setting s >>= λ v t. next (value.Bool (holds v)) t))
        ≡ (link_run link left setting s >>= next)
    or-either e true h = sym (or-true e h)
    or-either e false h = sym (or-false e h)

    pub and-either : link.operator ≡ And → (b : Bool) → holds left ≡ b
        → (if b then (evaluation link.operand setting s >>= λ v t. next (value.Bool (holds v)) t)
        else next (value.Bool false) s)
        ≡ (link_run link left setting s >>= next)
    and-either e true h = sym (and-true e h)
    and-either e false h = sym (and-false e h)

    pub operated-by : (op : BinaryOp) → link.operator ≡ Of op → (link_run link left setting s >>= next)
        ≡ (evaluation link.operand setting s >>= λ v t. value_run (binary_of op (data_of left) (data_of v)) t >>= next)
    operated-by op e =
        by_link ∙ rw e (and_then-assoc (evaluation link.operand setting s)
        (λ v t. value_run (binary_of op (data_of left) (data_of v)) t) next)

  -- ---- indices

  module _ (entry : Data → Data → Result Data ValueError) (first : Expression) (rest : List Expression)
      (v : Value) where
    indices-rest : (at : Value) (t : State)
        → ((value_run (entry (data_of v) (data_of at)) t
        >>= λ w u. indices_run entry (map expression_run rest) w setting u) >>= to_value k)
        ≡ (value_run (entry (data_of v) (data_of at)) t
        >>= λ w u. indices_run entry (map expression_run rest) w setting u >>= to_value k)
    indices-rest at t = and_then-assoc _ _ _

    pub indices-first : (indices_run entry (map expression_run (first ∷ rest)) v setting s >>= to_value k)
        ≡ (evaluation first setting s >>= λ at t.
        value_run (entry (data_of v) (data_of at)) t >>= λ w u. indices_run entry (map expression_run rest) w setting u
        >>= to_value k)
    indices-first = and_then-assoc (evaluation first setting s) (λ at t.
        value_run (entry (data_of v) (data_of at)) t >>= λ w u. indices_run entry (map expression_run rest) w setting u)
        (to_value k)
        ∙ (λ i. evaluation first setting s >>= λ at t. indices-rest at t i)

  -- ---- places

  module _ (name : List ℕ) (rest : List Place) where
    abbrev isset-on : Bool → State → Run Signal
    isset-on missing u =
        if missing then to_value k (value.Bool false) u else isset_run (map place_run rest) setting u >>= to_value k

    isset-if : (b : Bool) (u : State)
        → ((if b then Done (value.Bool false) u else isset_run (map place_run rest) setting u) >>= to_value k)
        ≡ isset-on b u
    unfolding and_then
    isset-if true u = refl
    isset-if false u = refl

    isset-rest : (indices : List Value) (t : State)
        → ((found_run name indices t >>= λ v u. if is_missing v then Done (value.Bool false) u
        else isset_run (map place_run rest) setting u) >>= to_value k)
        ≡ (missing_run name indices t >>= isset-on)
    isset-rest indices t =
        and_then-assoc _ _ _ ∙ (λ i. found_run name indices t >>= λ v u. isset-if (is_missing v) u i) ∙ sym
        (missing-then name indices isset-on t)

  pub isset-first : (first : Place) (rest : List Place)
      → (isset_run (map place_run (first ∷ rest)) setting s >>= to_value k)
      ≡ (evaluations first.indices setting s >>= λ indices t. missing_run first.name indices t >>= λ missing u.
      if missing then to_value k (value.Bool false) u else isset_run (map place_run rest) setting u >>= to_value k)
  isset-first first rest =
      ap (λ (place : PlaceRun). isset_run (place ∷ map place_run rest) setting s >>= to_value k) (run-place first)
      ∙ and_then-assoc _ _ _
      ∙ (λ i. evaluations first.indices setting s >>= λ indices t. isset-rest first.name rest indices t i)

  -- an item whose key is evaluated first
  pub keyed-first : (all : List Item) (at : ℕ) (first : Item) → at < length all → first ≡ get_or all at first
      → (array : Value) (key : Expression)
      → first.key ≡ Some key → (evaluation key setting s >>= λ v t. keyed_after setting (drop at all) v array k t)
      ≡ (items_run (map item_run_of (drop at all)) array setting s >>= to_value k)
  keyed-first all at first h e array key is =
      rw (from-member all at first h e) (sym (items-first _ _ array ∙ item-keyed _ first array key is))
