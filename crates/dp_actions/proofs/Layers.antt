-- The run of an expression by the runs of its parts, variant by variant.
use Rattle.std.proofs.Common.{◌≡◌, ℕ, ℤ, Bool, List, map, Option, Some, None, refl, sym, ap, ◌∙◌}
use Rattle.std.specs.Prelude.{option_map}
use Rattle.dp_tree.specs.declared.operators.BinaryOp.{BinaryOp}
use Rattle.dp_tree.specs.declared.operators.UnaryOp.{UnaryOp}
use Rattle.dp_tree.specs.declared.tree.Expression.{Expression, roll-Expression}
use Rattle.dp_tree.specs.declared.tree.Expression.TheFolds.{fold-roll-Expression, fold_out-Item, fold_out-Link, fold_out-Place}
use Rattle.dp_tree.specs.declared.tree.Expression.TheOpen.{Expression-F}
use Rattle.dp_tree.specs.declared.tree.Expression.TheVariants as tree
use Rattle.dp_tree.specs.declared.tree.Expression.TheViews.{out-Expression, roll-out-Expression}
use Rattle.dp_value.specs.declared.value.Value.{Value}
use Rattle.dp_tree.specs.declared.tree.Inclusion.{Inclusion}
use Rattle.dp_tree.specs.declared.tree.Item.{Item}
use Rattle.dp_tree.specs.declared.tree.Link.{Link}
use Rattle.dp_tree.specs.declared.tree.Order.{Order}
use Rattle.dp_tree.specs.declared.tree.Place.{Place}
use Rattle.dp_actions.specs.Expressions.{ExpressionRun, conditional, plain, ItemRun, LinkRun, values_run, operator_run, item_run, place_layer, item_layer, link_layer, expression_layer, expression_run, place_run}
use Rattle.dp_actions.specs.Expressions.{item_run_of, link_run}
use Rattle.dp_actions.specs.Places.{PlaceRun}
use Rattle.dp_actions.specs.Setting.{Part}

-- ---- expressions

pub run-Null : expression_run tree.Null ≡ expression_layer Expression-F.Null
unfolding expression_run item_run_of link_run place_run
run-Null = ap expression_run (sym tree.rolls-Null)
    ∙ fold-roll-Expression ExpressionRun ItemRun LinkRun PlaceRun expression_layer item_layer link_layer place_layer
    Expression-F.Null

pub run-Bool : (b : Bool) → expression_run (tree.Bool b) ≡ expression_layer (Expression-F.Bool b)
unfolding expression_run item_run_of link_run place_run
run-Bool b = ap expression_run (sym (tree.rolls-Bool b))
    ∙ fold-roll-Expression ExpressionRun ItemRun LinkRun PlaceRun expression_layer item_layer link_layer place_layer
    (Expression-F.Bool b)

pub run-Number : (n : ℤ) → expression_run (tree.Number n) ≡ expression_layer (Expression-F.Number n)
unfolding expression_run item_run_of link_run place_run
run-Number n = ap expression_run (sym (tree.rolls-Number n))
    ∙ fold-roll-Expression ExpressionRun ItemRun LinkRun PlaceRun expression_layer item_layer link_layer place_layer
    (Expression-F.Number n)

pub run-Text : (bytes : List ℕ) → expression_run (tree.Text bytes) ≡ expression_layer (Expression-F.Text bytes)
unfolding expression_run item_run_of link_run place_run
run-Text bytes = ap expression_run (sym (tree.rolls-Text bytes))
    ∙ fold-roll-Expression ExpressionRun ItemRun LinkRun PlaceRun expression_layer item_layer link_layer place_layer
    (Expression-F.Text bytes)

pub run-Variable : (name : List ℕ) → expression_run (tree.Variable name) ≡ expression_layer (Expression-F.Variable name)
unfolding expression_run item_run_of link_run place_run
run-Variable name = ap expression_run (sym (tree.rolls-Variable name))
    ∙ fold-roll-Expression ExpressionRun ItemRun LinkRun PlaceRun expression_layer item_layer link_layer place_layer
    (Expression-F.Variable name)

pub run-Constant : (name : List ℕ) → expression_run (tree.Constant name) ≡ expression_layer (Expression-F.Constant name)
unfolding expression_run item_run_of link_run place_run
run-Constant name = ap expression_run (sym (tree.rolls-Constant name))
    ∙ fold-roll-Expression ExpressionRun ItemRun LinkRun PlaceRun expression_layer item_layer link_layer place_layer
    (Expression-F.Constant name)

pub run-Array : (items : List Item)
    → expression_run (tree.Array items) ≡ expression_layer (Expression-F.Array (map item_run_of items))
unfolding expression_run item_run_of link_run place_run
run-Array items = ap expression_run (sym (tree.rolls-Array items))
    ∙ fold-roll-Expression ExpressionRun ItemRun LinkRun PlaceRun expression_layer item_layer link_layer place_layer
    (Expression-F.Array items)

pub run-Call : (name : List ℕ) (arguments : List Expression) → expression_run (tree.Call name arguments)
    ≡ expression_layer (Expression-F.Call name (map expression_run arguments))
unfolding expression_run item_run_of link_run place_run
run-Call name arguments = ap expression_run (sym (tree.rolls-Call name arguments))
    ∙ fold-roll-Expression ExpressionRun ItemRun LinkRun PlaceRun expression_layer item_layer link_layer place_layer
    (Expression-F.Call name arguments)

pub run-Isset : (places : List Place)
    → expression_run (tree.Isset places) ≡ expression_layer (Expression-F.Isset (map place_run places))
unfolding expression_run item_run_of link_run place_run
run-Isset places = ap expression_run (sym (tree.rolls-Isset places))
    ∙ fold-roll-Expression ExpressionRun ItemRun LinkRun PlaceRun expression_layer item_layer link_layer place_layer
    (Expression-F.Isset places)

pub run-Index : (base : Expression) (indices : List Expression)
    → expression_run (tree.Index base indices) ≡ expression_layer
    (Expression-F.Index (expression_run base) (map expression_run indices))
unfolding expression_run item_run_of link_run place_run
run-Index base indices = ap expression_run (sym (tree.rolls-Index base indices))
    ∙ fold-roll-Expression ExpressionRun ItemRun LinkRun PlaceRun expression_layer item_layer link_layer place_layer
    (Expression-F.Index base indices)

pub run-Unary : (op : UnaryOp) (operand : Expression) → expression_run (tree.Unary op operand)
    ≡ expression_layer (Expression-F.Unary op (expression_run operand))
unfolding expression_run item_run_of link_run place_run
run-Unary op operand = ap expression_run (sym (tree.rolls-Unary op operand))
    ∙ fold-roll-Expression ExpressionRun ItemRun LinkRun PlaceRun expression_layer item_layer link_layer place_layer
    (Expression-F.Unary op operand)

pub run-Step : (op : UnaryOp) (order : Order) (place : Place)
    → expression_run (tree.Step op order place) ≡ expression_layer (Expression-F.Step op order (place_run place))
unfolding expression_run item_run_of link_run place_run
run-Step op order place = ap expression_run (sym (tree.rolls-Step op order place))
    ∙ fold-roll-Expression ExpressionRun ItemRun LinkRun PlaceRun expression_layer item_layer link_layer place_layer
    (Expression-F.Step op order place)

pub run-Chain : (first : Expression) (links : List Link) → expression_run (tree.Chain first links)
    ≡ expression_layer (Expression-F.Chain (expression_run first) (map link_run links))
unfolding expression_run item_run_of link_run place_run
run-Chain first links = ap expression_run (sym (tree.rolls-Chain first links))
    ∙ fold-roll-Expression ExpressionRun ItemRun LinkRun PlaceRun expression_layer item_layer link_layer place_layer
    (Expression-F.Chain first links)

pub run-Coalesce : (left right : Expression) → expression_run (tree.Coalesce left right)
    ≡ expression_layer (Expression-F.Coalesce (expression_run left) (expression_run right))
unfolding expression_run item_run_of link_run place_run
run-Coalesce left right = ap expression_run (sym (tree.rolls-Coalesce left right))
    ∙ fold-roll-Expression ExpressionRun ItemRun LinkRun PlaceRun expression_layer item_layer link_layer place_layer
    (Expression-F.Coalesce left right)

pub run-Include : (how : Inclusion) (file : Expression) → expression_run (tree.Include how file)
    ≡ expression_layer (Expression-F.Include how (expression_run file))
unfolding expression_run item_run_of link_run place_run
run-Include how file = ap expression_run (sym (tree.rolls-Include how file))
    ∙ fold-roll-Expression ExpressionRun ItemRun LinkRun PlaceRun expression_layer item_layer link_layer place_layer
    (Expression-F.Include how file)

pub run-Assign : (place : Place) (right : Expression) → expression_run (tree.Assign place right)
    ≡ expression_layer (Expression-F.Assign (place_run place) (expression_run right))
unfolding expression_run item_run_of link_run place_run
run-Assign place right = ap expression_run (sym (tree.rolls-Assign place right))
    ∙ fold-roll-Expression ExpressionRun ItemRun LinkRun PlaceRun expression_layer item_layer link_layer place_layer
    (Expression-F.Assign place right)

pub run-Compound : (op : BinaryOp) (place : Place) (right : Expression)
    → expression_run (tree.Compound op place right) ≡ expression_layer
    (Expression-F.Compound op (place_run place) (expression_run right))
unfolding expression_run item_run_of link_run place_run
run-Compound op place right = ap expression_run (sym (tree.rolls-Compound op place right))
    ∙ fold-roll-Expression ExpressionRun ItemRun LinkRun PlaceRun expression_layer item_layer link_layer place_layer
    (Expression-F.Compound op place right)

pub run-CoalesceAssign : (place : Place) (right : Expression)
    → expression_run (tree.CoalesceAssign place right) ≡ expression_layer
    (Expression-F.CoalesceAssign (place_run place) (expression_run right))
unfolding expression_run item_run_of link_run place_run
run-CoalesceAssign place right = ap expression_run (sym (tree.rolls-CoalesceAssign place right))
    ∙ fold-roll-Expression ExpressionRun ItemRun LinkRun PlaceRun expression_layer item_layer link_layer place_layer
    (Expression-F.CoalesceAssign place right)

pub run-Push : (place : Place) (right : Expression) → expression_run (tree.Push place right)
    ≡ expression_layer (Expression-F.Push (place_run place) (expression_run right))
unfolding expression_run item_run_of link_run place_run
run-Push place right = ap expression_run (sym (tree.rolls-Push place right))
    ∙ fold-roll-Expression ExpressionRun ItemRun LinkRun PlaceRun expression_layer item_layer link_layer place_layer
    (Expression-F.Push place right)

pub run-Conditional-None : (test otherwise : Expression) → expression_run (tree.Conditional test None otherwise)
    ≡ expression_layer (Expression-F.Conditional (expression_run test) None (expression_run otherwise))
unfolding expression_run item_run_of link_run place_run
run-Conditional-None test otherwise = ap expression_run (sym (tree.rolls-Conditional test None otherwise))
    ∙ fold-roll-Expression ExpressionRun ItemRun LinkRun PlaceRun expression_layer item_layer link_layer place_layer
    (Expression-F.Conditional test None otherwise)

pub run-Conditional-Some : (test middle otherwise : Expression)
    → expression_run (tree.Conditional test (Some middle) otherwise)
    ≡ expression_layer (Expression-F.Conditional (expression_run test) (Some (expression_run middle))
    (expression_run otherwise))
unfolding expression_run item_run_of link_run place_run
run-Conditional-Some test middle otherwise =
    ap expression_run (sym (tree.rolls-Conditional test (Some middle) otherwise))
    ∙ fold-roll-Expression ExpressionRun ItemRun LinkRun PlaceRun expression_layer item_layer link_layer place_layer
    (Expression-F.Conditional test (Some middle) otherwise)

pub run-Conditional : (test : Expression) (middle : Option Expression) (otherwise : Expression)
    → (expression_run (tree.Conditional test middle otherwise)).value
    ≡ conditional (expression_run test) (option_map expression_run middle) (expression_run otherwise)
run-Conditional test None otherwise = ap (λ (e : ExpressionRun). e.value) (run-Conditional-None test otherwise)
run-Conditional test (Some middle) otherwise =
    ap (λ (e : ExpressionRun). e.value) (run-Conditional-Some test middle otherwise)

-- ---- parts of expressions

pub run-place : (place : Place)
    → place_run place ≡ record { name = place.name; indices = values_run (map expression_run place.indices) }
unfolding expression_run item_run_of link_run place_run
run-place place =
    fold_out-Place ExpressionRun ItemRun LinkRun PlaceRun expression_layer item_layer link_layer place_layer place

pub run-link : (link : Link) → link_run link ≡ operator_run link.operator (expression_run link.operand)
unfolding expression_run item_run_of link_run place_run
run-link link =
    fold_out-Link ExpressionRun ItemRun LinkRun PlaceRun expression_layer item_layer link_layer place_layer link

pub run-item-None : (item : Item) → item.key ≡ None → item_run_of item ≡ item_run None (expression_run item.value)
unfolding expression_run item_run_of link_run place_run
run-item-None item e =
    ap item_run_of (λ i. record { key = e i; value = item.value })
    ∙ fold_out-Item ExpressionRun ItemRun LinkRun PlaceRun expression_layer item_layer link_layer place_layer
    (record { key = None; value = item.value })

pub run-item-Some : (item : Item) (key : Expression) → item.key ≡ Some key
    → item_run_of item ≡ item_run (Some (expression_run key)) (expression_run item.value)
unfolding expression_run item_run_of link_run place_run
run-item-Some item key e =
    ap item_run_of (λ i. record { key = e i; value = item.value })
    ∙ fold_out-Item ExpressionRun ItemRun LinkRun PlaceRun expression_layer item_layer link_layer place_layer
    (record { key = Some key; value = item.value })

-- ---- reading to the left of `??`

-- an expression that is no chain of indices is read in one way alone
pub found-plain : (e : Expression) → ((base : Expression) (indices : List Expression) → e ≡ tree.Index base indices → ⊥)
    → (expression_run e).found ≡ (expression_run e).value
found-plain e other = go (out-Expression e) (sym (roll-out-Expression e))
  where
    same : (f : Expression) → e ≡ f → (run : Part Value) → expression_run f ≡ plain run
        → (expression_run e).found ≡ (expression_run e).value
    same f is run layer = let all : expression_run e ≡ plain run = ap expression_run is ∙ layer in rw all refl

    go : (x : Expression-F Expression Item Link Place) → e ≡ roll-Expression x
        → (expression_run e).found ≡ (expression_run e).value
    go Expression-F.Null is = same tree.Null (is ∙ tree.rolls-Null) _ run-Null
    go (Expression-F.Bool b) is = same (tree.Bool b) (is ∙ tree.rolls-Bool b) _ (run-Bool b)
    go (Expression-F.Number n) is = same (tree.Number n) (is ∙ tree.rolls-Number n) _ (run-Number n)
    go (Expression-F.Text bytes) is = same (tree.Text bytes) (is ∙ tree.rolls-Text bytes) _ (run-Text bytes)
    go (Expression-F.Variable name) is = same (tree.Variable name) (is ∙ tree.rolls-Variable name) _ (run-Variable name)
    go (Expression-F.Constant name) is = same (tree.Constant name) (is ∙ tree.rolls-Constant name) _ (run-Constant name)
    go (Expression-F.Array items) is = same (tree.Array items) (is ∙ tree.rolls-Array items) _ (run-Array items)
    go (Expression-F.Call name arguments) is =
        same (tree.Call name arguments) (is ∙ tree.rolls-Call name arguments) _ (run-Call name arguments)
    go (Expression-F.Isset places) is = same (tree.Isset places) (is ∙ tree.rolls-Isset places) _ (run-Isset places)
    go (Expression-F.Index base indices) is = absurd (other base indices (is ∙ tree.rolls-Index base indices))
    go (Expression-F.Unary op operand) is =
        same (tree.Unary op operand) (is ∙ tree.rolls-Unary op operand) _ (run-Unary op operand)
    go (Expression-F.Step op order place) is =
        same (tree.Step op order place) (is ∙ tree.rolls-Step op order place) _ (run-Step op order place)
    go (Expression-F.Chain first links) is =
        same (tree.Chain first links) (is ∙ tree.rolls-Chain first links) _ (run-Chain first links)
    go (Expression-F.Coalesce left right) is =
        same (tree.Coalesce left right) (is ∙ tree.rolls-Coalesce left right) _ (run-Coalesce left right)
    go (Expression-F.Conditional test None otherwise) is =
        same (tree.Conditional test None otherwise) (is ∙ tree.rolls-Conditional test None otherwise) _
        (run-Conditional-None test otherwise)
    go (Expression-F.Conditional test (Some middle) otherwise) is =
        same (tree.Conditional test (Some middle) otherwise) (is
        ∙ tree.rolls-Conditional test (Some middle) otherwise) _ (run-Conditional-Some test middle otherwise)
    go (Expression-F.Include how file) is =
        same (tree.Include how file) (is ∙ tree.rolls-Include how file) _ (run-Include how file)
    go (Expression-F.Assign place right) is =
        same (tree.Assign place right) (is ∙ tree.rolls-Assign place right) _ (run-Assign place right)
    go (Expression-F.Compound op place right) is = same (tree.Compound op place right) (is
        ∙ tree.rolls-Compound op place right) _ (run-Compound op place right)
    go (Expression-F.CoalesceAssign place right) is = same (tree.CoalesceAssign place right) (is
        ∙ tree.rolls-CoalesceAssign place right) _ (run-CoalesceAssign place right)
    go (Expression-F.Push place right) is =
        same (tree.Push place right) (is ∙ tree.rolls-Push place right) _ (run-Push place right)
