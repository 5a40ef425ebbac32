-- What expressions do. Source: the PHP manual, "Expressions" and "Operators".
use Rattle.std.specs.Prelude.{true, false, if◌then◌else◌, List, [], ◌∷◌, map, Option, Some, None, Result}
use Rattle.dp_value.specs.declared.errors.ValueError.{ValueError}
use Rattle.dp_value.specs.declared.value.Value.{Value}
use Rattle.dp_value.specs.declared.value.Value.TheVariants as value
use Rattle.dp_value.specs.Data.{Data}
use Rattle.dp_value.specs.Entry.{write_result}
use Rattle.dp_value.specs.Table.{empty}
use Rattle.dp_value.specs.Value.{data_of}
use Rattle.dp_operations.specs.Binary.{binary_of}
use Rattle.dp_operations.specs.Indices.{indexed, looked_up}
use Rattle.dp_operations.specs.Unary.{unary_of}
use Rattle.dp_tree.specs.declared.operators.UnaryOp.{UnaryOp}
use Rattle.dp_tree.specs.declared.tree.Inclusion.{Inclusion}
use Rattle.dp_tree.specs.declared.tree.Expression.{Expression, fold-Expression}
use Rattle.dp_tree.specs.declared.tree.Expression.TheOpen.{Expression-F, Item-F, Link-F, Place-F}
use Rattle.dp_tree.specs.declared.tree.Item.{Item, fold-Item}
use Rattle.dp_tree.specs.declared.tree.Link.{Link, fold-Link}
use Rattle.dp_tree.specs.declared.tree.Operator.{Operator}
use Rattle.dp_tree.specs.declared.tree.Operator.TheVariants.{Or, And, Of}
use Rattle.dp_tree.specs.declared.tree.Place.{Place, fold-Place}
use Rattle.dp_state.specs.Places.{keys_of_indices}
use Rattle.dp_actions.specs.Calls.{call_run, callee, include_run}
use Rattle.dp_actions.specs.Constants.{constant_run}
use Rattle.dp_actions.specs.Places.{PlaceRun, variable, assignment, compound, coalescing, step, isset_run}
use Rattle.dp_actions.specs.Run.{Done, ◌>>=◌}
use Rattle.dp_actions.specs.Setting.{Part}
use Rattle.dp_actions.specs.Values.{value_run, write_run, holds, is_missing}

-- An expression: its value, and its value to the left of `??`, where an entry is read as isset
-- finds it.
pub record ExpressionRun : Type 0 where
  pub value : Part Value
  pub found : Part Value

-- an operator and its right operand, by the left one
abbrev pub LinkRun : Type 0
LinkRun = Value → Part Value

-- an item of a literal, by the array so far
abbrev pub ItemRun : Type 0
ItemRun = Value → Part Value

-- one that is read in one way alone
abbrev pub plain : Part Value → ExpressionRun
plain run = record { value = run; found = run }

-- ---- parts in their order

-- the values of expressions, one after another
abbrev pub values_run : List ExpressionRun → Part (List Value)
values_run [] setting s = Done [] s
values_run (first ∷ rest) setting s =
    first.value setting s >>= λ v t. values_run rest setting t >>= λ values u. Done (v ∷ values) u

-- a value under indices: each is evaluated, and read, before the next
abbrev pub indices_run : (Data → Data → Result Data ValueError) → List ExpressionRun → Value
    → Part Value
indices_run entry [] v setting s = Done v s
indices_run entry (index ∷ indices) v setting s =
    index.value setting s >>= λ i t. value_run (entry (data_of v) (data_of i)) t
    >>= λ w u. indices_run entry indices w setting u

abbrev pub links_run : List LinkRun → Value → Part Value
links_run [] left setting s = Done left s
links_run (link ∷ links) left setting s = link left setting s >>= λ v t. links_run links v setting t

abbrev pub items_run : List ItemRun → Value → Part Value
items_run [] array setting s = Done array s
items_run (item ∷ items) array setting s =
    item array setting s >>= λ longer t. items_run items longer setting t

-- an expression under indices, and as isset finds it
abbrev pub read_entry : ExpressionRun → List ExpressionRun → Part Value
read_entry base indices setting s =
    base.value setting s >>= λ v t. indices_run indexed indices v setting t

abbrev pub found_entry : ExpressionRun → List ExpressionRun → Part Value
found_entry base indices setting s =
    base.found setting s >>= λ v t. indices_run looked_up indices v setting t

-- operands that are joined from left to right
abbrev pub chained : ExpressionRun → List LinkRun → Part Value
chained first links setting s = first.value setting s >>= λ v t. links_run links v setting t

-- `include` and `require`
abbrev pub included : Inclusion → ExpressionRun → Part Value
included how file setting s = file.value setting s >>= λ v t. include_run how v setting t

-- ---- operators

-- an operator with one operand
abbrev pub operated : UnaryOp → ExpressionRun → Part Value
operated op operand setting s =
    operand.value setting s >>= λ v t. value_run (unary_of op (data_of v)) t

-- whether the value of an operand is true
abbrev pub tested : ExpressionRun → Part Value
tested operand setting s = operand.value setting s >>= λ v t. Done (value.Bool (holds v)) t

-- `||` and `&&` evaluate the right operand only where the left one does not decide
abbrev pub operator_run : Operator → ExpressionRun → LinkRun
operator_run Or right left setting s =
    if holds left then Done (value.Bool true) s else tested right setting s
operator_run And right left setting s =
    if holds left then tested right setting s else Done (value.Bool false) s
operator_run (Of op) right left setting s =
    right.value setting s >>= λ v t. value_run (binary_of op (data_of left) (data_of v)) t

-- `a ?? b`
abbrev pub coalesced : ExpressionRun → ExpressionRun → Part Value
coalesced left right setting s =
    left.found setting s >>= λ v t. if is_missing v then right.value setting t else Done v t

abbrev pub choice : Option ExpressionRun → Value → Part Value
choice None tested setting s = Done tested s
choice (Some middle) tested setting s = middle.value setting s

-- `a ? b : c`, or `a ?: c`
abbrev pub conditional : ExpressionRun → Option ExpressionRun → ExpressionRun → Part Value
conditional test middle otherwise setting s =
    test.value setting s >>= λ v t.
    if holds v then choice middle v setting t else otherwise.value setting t

-- an item under an index that is evaluated
abbrev pub keyed_run : Value → ExpressionRun → ItemRun
keyed_run k item array setting s =
    item.value setting s >>= λ v t.
    write_run (write_result (keys_of_indices (k ∷ [])) false (data_of v) (data_of array)) t

-- an item goes last, under its key or under the next integer key; the key of an item becomes one
-- after its value was evaluated
abbrev pub item_run : Option ExpressionRun → ExpressionRun → ItemRun
item_run None item array setting s =
    item.value setting s >>= λ v t. write_run (write_result [] true (data_of v) (data_of array)) t
item_run (Some key) item array setting s =
    key.value setting s >>= λ k t. keyed_run k item array setting t

-- ---- each layer of a tree, where the runs of its parts are known

abbrev pub place_layer : Place-F ExpressionRun ItemRun LinkRun PlaceRun → PlaceRun
place_layer place = record { name = place.name; indices = values_run place.indices }

abbrev pub item_layer : Item-F ExpressionRun ItemRun LinkRun PlaceRun → ItemRun
item_layer item = item_run item.key item.value

abbrev pub link_layer : Link-F ExpressionRun ItemRun LinkRun PlaceRun → LinkRun
link_layer link = operator_run link.operator link.operand

abbrev pub expression_layer : Expression-F ExpressionRun ItemRun LinkRun PlaceRun → ExpressionRun
expression_layer Expression-F.Null = plain (λ setting s. Done value.Null s)
expression_layer (Expression-F.Bool b) = plain (λ setting s. Done (value.Bool b) s)
expression_layer (Expression-F.Number n) = plain (λ setting s. Done (value.Int n) s)
expression_layer (Expression-F.Text bytes) = plain (λ setting s. Done (value.Text bytes) s)
expression_layer (Expression-F.Variable name) = plain (λ setting s. Done (variable name s) s)
expression_layer (Expression-F.Constant name) = plain (λ setting s. constant_run name s)
expression_layer (Expression-F.Array items) = plain (items_run items (value.Array empty))
expression_layer (Expression-F.Call name arguments) =
    plain (λ setting s. call_run (callee setting.bundle name s) (values_run arguments) setting s)
expression_layer (Expression-F.Isset places) = plain (isset_run places)
expression_layer (Expression-F.Index base indices) =
    record { value = read_entry base indices; found = found_entry base indices }
expression_layer (Expression-F.Unary op operand) = plain (operated op operand)
expression_layer (Expression-F.Step op order place) = plain (step op order place)
expression_layer (Expression-F.Chain first links) = plain (chained first links)
expression_layer (Expression-F.Coalesce left right) = plain (coalesced left right)
expression_layer (Expression-F.Conditional test middle otherwise) =
    plain (conditional test middle otherwise)
expression_layer (Expression-F.Include how file) = plain (included how file)
expression_layer (Expression-F.Assign place right) = plain (assignment false place right.value)
expression_layer (Expression-F.Compound op place right) = plain (compound op place right.value)
expression_layer (Expression-F.CoalesceAssign place right) = plain (coalescing place right.value)
expression_layer (Expression-F.Push place right) = plain (assignment true place right.value)

-- ---- whole trees

unfoldable pub expression_run : Expression → ExpressionRun
expression_run =
    fold-Expression ExpressionRun ItemRun LinkRun PlaceRun expression_layer item_layer link_layer
    place_layer

unfoldable pub place_run : Place → PlaceRun
place_run =
    fold-Place ExpressionRun ItemRun LinkRun PlaceRun expression_layer item_layer link_layer
    place_layer

unfoldable pub item_run_of : Item → ItemRun
item_run_of =
    fold-Item ExpressionRun ItemRun LinkRun PlaceRun expression_layer item_layer link_layer
    place_layer

unfoldable pub link_run : Link → LinkRun
link_run =
    fold-Link ExpressionRun ItemRun LinkRun PlaceRun expression_layer item_layer link_layer
    place_layer

-- the value of an expression
abbrev pub evaluation : Expression → Part Value
evaluation e = (expression_run e).value

-- the values of expressions, one after another
abbrev pub evaluations : List Expression → Part (List Value)
evaluations all = values_run (map expression_run all)
