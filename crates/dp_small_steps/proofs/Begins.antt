-- An expression by what is done first and what waits for it.
use Rattle.std.proofs.Common.{◌≡◌, ℕ, ℤ, Bool, true, false, List, map, Option, refl, ap, ◌∙◌}
use Rattle.std.specs.Prelude.{if◌then◌else◌, option_map}
use Rattle.dp_tree.specs.declared.operators.BinaryOp.{BinaryOp}
use Rattle.dp_tree.specs.declared.operators.UnaryOp.{UnaryOp}
use Rattle.dp_value.specs.declared.value.Value.{Value}
use Rattle.dp_value.specs.declared.value.Value.TheVariants as value
use Rattle.dp_tree.specs.declared.tree.Expression.{Expression}
use Rattle.dp_tree.specs.declared.tree.Expression.TheVariants as tree
use Rattle.dp_tree.specs.declared.tree.Item.{Item}
use Rattle.dp_tree.specs.declared.tree.Link.{Link}
use Rattle.dp_tree.specs.declared.tree.Order.{Order}
use Rattle.dp_tree.specs.declared.tree.Place.{Place}
use Rattle.dp_state.specs.declared.state.State.{State}
use Rattle.dp_actions.specs.Constants.{constant_run}
use Rattle.dp_actions.specs.Expressions.{ExpressionRun, choice, evaluation, evaluations, expression_run, indices_run, items_run, links_run, place_run}
use Rattle.dp_actions.specs.Expressions.{item_run_of, link_run}
use Rattle.dp_actions.specs.Places.{assigned_under, compound_under, coalescing_under, isset_run, step_under, variable}
use Rattle.dp_value.specs.Table.{empty}
use Rattle.dp_value.specs.Value.{data_of}
use Rattle.dp_operations.specs.Indices.{indexed, looked_up}
use Rattle.dp_operations.specs.Unary.{unary_of}
use Rattle.dp_actions.specs.Run.{Run, Done, and_then, ◌>>=◌}
use Rattle.dp_actions.specs.Setting.{Setting}
use Rattle.dp_actions.specs.Values.{holds, is_missing, value_run}
use Rattle.dp_actions.proofs.Runs.{and_then-assoc, and_then-same}
use Rattle.dp_actions.proofs.Layers as layer
use Rattle.dp_actions.specs.declared.signal.Signal.TheVariants.{Next}
use Rattle.dp_small_steps.specs.Parts.{Follows, to_value}

-- an expression, by what is done first and what waits for it
module _ (setting : Setting) (k : Follows) (s : State) where
  by_layer : (e : Expression) (r : ExpressionRun) → expression_run e ≡ r
      → (evaluation e setting s >>= to_value k) ≡ (r.value setting s >>= to_value k)
  by_layer e r h = ap (λ z. z.value setting s >>= to_value k) h

  pub begins-Null : (evaluation tree.Null setting s >>= to_value k) ≡ to_value k value.Null s
  unfolding and_then
  begins-Null = by_layer _ _ layer.run-Null

  pub begins-Bool : (b : Bool) → (evaluation (tree.Bool b) setting s >>= to_value k) ≡ to_value k (value.Bool b) s
  unfolding and_then
  begins-Bool b = by_layer _ _ (layer.run-Bool b)

  pub begins-Number : (n : ℤ) → (evaluation (tree.Number n) setting s >>= to_value k) ≡ to_value k (value.Int n) s
  unfolding and_then
  begins-Number n = by_layer _ _ (layer.run-Number n)

  pub begins-Text : (bytes : List ℕ) → evaluation (tree.Text bytes) setting s ≡ Done (value.Text bytes) s
  begins-Text bytes = ap (λ z. z.value setting s) (layer.run-Text bytes)

  pub begins-Variable : (name : List ℕ) → evaluation (tree.Variable name) setting s ≡ Done (variable name s) s
  begins-Variable name = ap (λ z. z.value setting s) (layer.run-Variable name)

  pub begins-Constant : (name : List ℕ) → evaluation (tree.Constant name) setting s ≡ constant_run name s
  begins-Constant name = ap (λ z. z.value setting s) (layer.run-Constant name)

  pub begins-Array : (items : List Item) → (evaluation (tree.Array items) setting s >>= to_value k)
      ≡ (items_run (map item_run_of items) (value.Array empty) setting s >>= to_value k)
  begins-Array items = by_layer _ _ (layer.run-Array items)

  pub begins-Isset : (places : List Place) → (evaluation (tree.Isset places) setting s >>= to_value k)
      ≡ (isset_run (map place_run places) setting s >>= to_value k)
  begins-Isset places = by_layer _ _ (layer.run-Isset places)

  pub begins-Index : (base : Expression) (indices : List Expression)
      → (evaluation (tree.Index base indices) setting s >>= to_value k)
      ≡ (evaluation base setting s >>= λ v t. indices_run indexed (map expression_run indices) v setting t
      >>= to_value k)
  begins-Index base indices = by_layer _ _ (layer.run-Index base indices) ∙ and_then-assoc _ _ _

  pub begins-Unary : (op : UnaryOp) (e : Expression) → (evaluation (tree.Unary op e) setting s >>= to_value k)
      ≡ (evaluation e setting s >>= λ v t. value_run (unary_of op (data_of v)) t >>= to_value k)
  begins-Unary op e = by_layer _ _ (layer.run-Unary op e) ∙ and_then-assoc _ _ _

  pub begins-Chain : (first : Expression) (links : List Link)
      → (evaluation (tree.Chain first links) setting s >>= to_value k)
      ≡ (evaluation first setting s >>= λ v t. links_run (map link_run links) v setting t >>= to_value k)
  begins-Chain first links = by_layer _ _ (layer.run-Chain first links) ∙ and_then-assoc _ _ _

  if_then : {A B : Type 0} (b : Bool) (x y : Run A) (f : A → State → Run B)
      → ((if b then x else y) >>= f) ≡ (if b then x >>= f else y >>= f)
  if_then true x y f = refl
  if_then false x y f = refl

  coalesce-rest : (right : Expression) (v : Value) (t : State)
      → ((if is_missing v then evaluation right setting t else Done v t) >>= to_value k)
      ≡ (if is_missing v then evaluation right setting t >>= to_value k else to_value k v t)
  unfolding and_then
  coalesce-rest right v t = if_then (is_missing v) (evaluation right setting t) (Done v t) (to_value k)

  pub begins-Coalesce : (left right : Expression) → (evaluation (tree.Coalesce left right) setting s >>= to_value k)
      ≡ ((expression_run left).found setting s >>= λ v t. if is_missing v then evaluation right setting t >>= to_value k
      else to_value k v t)
  begins-Coalesce left right = by_layer _ _ (layer.run-Coalesce left right) ∙ and_then-assoc _ _ _
      ∙ and_then-same _ _ _ (λ v t. coalesce-rest right v t)

  pub begins-Conditional : (test : Expression) (middle : Option Expression) (otherwise : Expression)
      → (evaluation (tree.Conditional test middle otherwise) setting s >>= to_value k)
      ≡ (evaluation test setting s >>= λ v t. if holds v
      then choice (option_map expression_run middle) v setting t >>= to_value k
      else evaluation otherwise setting t >>= to_value k)
  begins-Conditional test middle otherwise =
      ap (λ z. z setting s >>= to_value k) (layer.run-Conditional test middle otherwise) ∙ and_then-assoc _ _ _
      ∙ and_then-same _ _ _ (λ v t. if_then (holds v) (choice (option_map expression_run middle) v setting t)
      (evaluation otherwise setting t) (to_value k))

  -- the indices of a place, and then what is done with it
  module _ (place : Place) (part : List ℕ → List Value → State → Run Value) where
    pub by_place : ((place_run place).indices setting s >>= λ indices t. part (place_run place).name indices t)
        ≡ (evaluations place.indices setting s >>= λ indices t. part place.name indices t)
    by_place = ap (λ p. p.indices setting s >>= λ indices t. part p.name indices t) (layer.run-place place)

  pub begins-Step : (op : UnaryOp) (order : Order) (place : Place)
      → (evaluation (tree.Step op order place) setting s >>= to_value k)
      ≡ (evaluations place.indices setting s >>= λ indices t. step_under op order place.name indices t >>= to_value k)
  begins-Step op order place = by_layer _ _ (layer.run-Step op order place)
      ∙ ap (λ r. r >>= to_value k) (by_place place (λ name indices t. step_under op order name indices t))
      ∙ and_then-assoc _ _ _

  pub begins-Assign : (place : Place) (right : Expression)
      → (evaluation (tree.Assign place right) setting s >>= to_value k)
      ≡ (evaluations place.indices setting s
      >>= λ indices t. assigned_under false place.name (evaluation right) indices setting t >>= to_value k)
  begins-Assign place right = by_layer _ _ (layer.run-Assign place right)
      ∙ ap (λ r. r
      >>= to_value k) (by_place place (λ name indices t. assigned_under false name
      (evaluation right) indices setting t)) ∙ and_then-assoc _ _ _

  pub begins-Push : (place : Place) (right : Expression) → (evaluation (tree.Push place right) setting s >>= to_value k)
      ≡ (evaluations place.indices setting s
      >>= λ indices t. assigned_under true place.name (evaluation right) indices setting t >>= to_value k)
  begins-Push place right = by_layer _ _ (layer.run-Push place right)
      ∙ ap (λ r. r
      >>= to_value k) (by_place place (λ name indices t. assigned_under true name
      (evaluation right) indices setting t)) ∙ and_then-assoc _ _ _

  pub begins-Compound : (op : BinaryOp) (place : Place) (right : Expression)
      → (evaluation (tree.Compound op place right) setting s >>= to_value k)
      ≡ (evaluations place.indices setting s
      >>= λ indices t. compound_under op place.name (evaluation right) indices setting t >>= to_value k)
  begins-Compound op place right = by_layer _ _ (layer.run-Compound op place right)
      ∙ ap (λ r. r
      >>= to_value k) (by_place place (λ name indices t. compound_under op name
      (evaluation right) indices setting t)) ∙ and_then-assoc _ _ _

  pub begins-CoalesceAssign : (place : Place) (right : Expression)
      → (evaluation (tree.CoalesceAssign place right) setting s >>= to_value k)
      ≡ (evaluations place.indices setting s
      >>= λ indices t. coalescing_under place.name (evaluation right) indices setting t >>= to_value k)
  begins-CoalesceAssign place right = by_layer _ _ (layer.run-CoalesceAssign place right)
      ∙ ap (λ r. r
      >>= to_value k) (by_place place (λ name indices t. coalescing_under name
      (evaluation right) indices setting t)) ∙ and_then-assoc _ _ _

  -- to the left of `??`
  pub finds-Index : (base : Expression) (indices : List Expression)
      → ((expression_run (tree.Index base indices)).found setting s >>= to_value k)
      ≡ ((expression_run base).found setting s >>= λ v t. indices_run looked_up (map expression_run indices) v setting t
      >>= to_value k)
  finds-Index base indices =
      ap (λ z. z.found setting s >>= to_value k) (layer.run-Index base indices) ∙ and_then-assoc _ _ _

-- any end
pub anything : Follows
anything g s = Done Next s
