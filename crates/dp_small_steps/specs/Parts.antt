-- What is still to be done of an expression, as a run: it is finished whole, the innermost part
-- first, and then comes what follows.
use Rattle.std.specs.Prelude.{true, false, if◌then◌else◌, List, [], ◌∷◌, ◌++◌, map}
use Rattle.std.specs.Prelude.{drop, option_map}
use Rattle.dp_value.specs.declared.value.Value.{Value}
use Rattle.dp_value.specs.declared.value.Value.TheVariants as value
use Rattle.dp_value.specs.Entry.{write_result}
use Rattle.dp_value.specs.Value.{data_of}
use Rattle.dp_operations.specs.Binary.{binary_of}
use Rattle.dp_operations.specs.Unary.{unary_of}
use Rattle.dp_tree.specs.declared.tree.Expression.{Expression}
use Rattle.dp_tree.specs.declared.tree.Item.{Item}
use Rattle.dp_tree.specs.declared.tree.Link.{Link}
use Rattle.dp_tree.specs.declared.tree.Place.{Place}
use Rattle.dp_state.specs.declared.state.State.{State}
use Rattle.dp_state.specs.Places.{keys_of_indices}
use Rattle.dp_actions.specs.declared.entry_reads.Reading.{Reading}
use Rattle.dp_actions.specs.declared.signal.Signal.{Signal}
use Rattle.dp_actions.specs.Expressions.{choice, evaluation, evaluations, expression_run}
use Rattle.dp_actions.specs.Expressions.{indices_run, items_run, keyed_run, links_run, place_run}
use Rattle.dp_actions.specs.Expressions.{item_run_of, link_run}
use Rattle.dp_actions.specs.Places.{assign_run, assigned_under, coalescing_under, combined}
use Rattle.dp_actions.specs.Places.{compound_under, isset_run, missing_run, step_under}
use Rattle.dp_actions.specs.Run.{Run, ◌>>=◌}
use Rattle.dp_actions.specs.Setting.{Setting}
use Rattle.dp_actions.specs.InPlace.{entries_by}
use Rattle.dp_actions.specs.Calls.{native_run}
use Rattle.dp_actions.specs.Values.{holds, is_missing, value_run, write_run}
use Rattle.dp_small_steps.specs.declared.work.Given.{Given}
use Rattle.dp_small_steps.specs.declared.work.Given.TheVariants as given
use Rattle.dp_small_steps.specs.declared.work.ForPart.{ForPart}
use Rattle.dp_small_steps.specs.declared.work.ForPart.TheVariants as part_work
use Rattle.dp_small_steps.specs.declared.work.ForValue.{ForValue}
use Rattle.dp_small_steps.specs.declared.work.ForValue.TheVariants as value_work
use Rattle.dp_small_steps.specs.declared.work.ForValues.{ForValues}
use Rattle.dp_small_steps.specs.declared.work.ForValues.TheVariants as values_work

-- what follows once something is given
abbrev pub Follows : Type 0
Follows = Given → State → Run Signal

-- a value, values or a signal are given to what follows
abbrev pub to_value : Follows → Value → State → Run Signal
to_value k v s = k (given.Value v) s

abbrev pub to_values : Follows → List Value → State → Run Signal
to_values k values s = k (given.Values values) s

abbrev pub to_signal : Follows → Signal → State → Run Signal
to_signal k g s = k (given.Signal g) s

-- ---- what is left of lists of parts, and then what follows

abbrev pub values_after : Setting → List Value → List Expression → Follows → State → Run Signal
values_after setting before rest k s =
    evaluations rest setting s >>= λ values t. k (given.Values (before ++ values)) t

abbrev pub items_after : Setting → List Item → Follows → Value → State → Run Signal
items_after setting items k array s =
    items_run (map item_run_of items) array setting s >>= to_value k

-- an item whose key is evaluated, and those behind it
abbrev pub keyed_after : Setting → List Item → Value → Value → Follows → State → Run Signal
keyed_after setting [] key array k s = to_value k array s
keyed_after setting (item ∷ items) key array k s =
    keyed_run key (expression_run item.value) array setting s >>= items_after setting items k

abbrev pub links_after : Setting → List Link → Follows → Value → State → Run Signal
links_after setting links k left s = links_run (map link_run links) left setting s >>= to_value k

abbrev pub indices_after : Setting → Reading → List Expression → Follows
    → Value → State → Run Signal
indices_after setting how indices k v s =
    indices_run (entries_by how) (map expression_run indices) v setting s >>= to_value k

abbrev pub isset_after : Setting → List Place → Follows → State → Run Signal
isset_after setting places k s = isset_run (map place_run places) setting s >>= to_value k

-- ---- what a part that waits does with what it is given

abbrev pub part_rest : Setting → ForPart → Value → Follows → State → Run Signal
part_rest setting (part_work.More before rest at) v k s =
    evaluations (drop at rest.now) setting s >>= λ values t.
    k (given.Values (before ++ v ∷ values)) t
part_rest setting (part_work.PushItem array items at) v k s =
    write_run (write_result [] true (data_of v) (data_of array)) s
    >>= items_after setting (drop at items.now) k
part_rest setting (part_work.KeyItem array items at) key k s =
    keyed_after setting (drop at items.now) key array k s
part_rest setting (part_work.PutItem array key items at) v k s =
    write_run (write_result (keys_of_indices (key ∷ [])) false (data_of v) (data_of array)) s
    >>= items_after setting (drop at items.now) k
part_rest setting (part_work.Links links) v k s = links_after setting links.now k v s
part_rest setting (part_work.Tested links at) v k s =
    links_after setting (drop at links.now) k (value.Bool (holds v)) s
part_rest setting (part_work.Operate op left links at) v k s =
    value_run (binary_of op (data_of left) (data_of v)) s
    >>= links_after setting (drop at links.now) k
part_rest setting (part_work.Under how indices) v k s =
    indices_after setting how indices.now k v s
part_rest setting (part_work.Entry how v indices at) index k s =
    value_run (entries_by how (data_of v) (data_of index)) s
    >>= indices_after setting how (drop at indices.now) k

-- the same of an expression
abbrev pub value_rest : Setting → ForValue → Value → Follows → State → Run Signal
value_rest setting (value_work.Unary op) v k s =
    value_run (unary_of op (data_of v)) s >>= to_value k
value_rest setting (value_work.Coalesce right) v k s =
    if is_missing v then evaluation right.now setting s >>= to_value k else to_value k v s
value_rest setting (value_work.Choose middle otherwise) v k s =
    if holds v
    then choice (option_map expression_run middle.now) v setting s >>= to_value k
    else evaluation otherwise.now setting s >>= to_value k
value_rest setting (value_work.Assign name indices push) v k s =
    assign_run name.now indices push v s >>= to_value k
value_rest setting (value_work.Combine op name indices old) v k s =
    combined op name.now indices old v s >>= to_value k

-- the same of an expression that waits for values
abbrev pub values_rest : Setting → ForValues → List Value → Follows → State → Run Signal
values_rest setting (values_work.Native function) values k s =
    native_run function values s >>= to_value k
values_rest setting (values_work.Assign name push right) indices k s =
    assigned_under push name.now (evaluation right.now) indices setting s >>= to_value k
values_rest setting (values_work.Compound op name right) indices k s =
    compound_under op name.now (evaluation right.now) indices setting s >>= to_value k
values_rest setting (values_work.CoalesceAssign name right) indices k s =
    coalescing_under name.now (evaluation right.now) indices setting s >>= to_value k
values_rest setting (values_work.Step op order name) indices k s =
    step_under op order name.now indices s >>= to_value k
values_rest setting (values_work.Isset name places) indices k s =
    missing_run name.now indices s >>= λ missing t.
    if missing then to_value k (value.Bool false) t else isset_after setting places.now k t
