-- An expression that is still has no moments but those of its calls.
use Rattle.std.proofs.Common.{◌≡◌, ℕ, Bool, true, false, not, if◌then◌else◌, List, [], ◌∷◌, map, Option, Some, None, Result, Ok, Err, is_some, refl, sym, ap, ◌∙◌, subst}
use Rattle.std.specs.List.{list_all}
use Rattle.std.specs.Option.{option_map_or}
use Rattle.std.specs.Str.{str_eq_ignore_ascii_case}
use Rattle.dp_value.specs.declared.errors.ValueError.{ValueError}
use Rattle.dp_value.specs.declared.errors.WriteError.{WriteError}
use Rattle.dp_tree.specs.declared.bundle.Bundle.{Bundle}
use Rattle.dp_tree.specs.declared.bundle.FunctionRef.{FunctionRef}
use Rattle.dp_tree.specs.declared.operators.BinaryOp.{BinaryOp}
use Rattle.dp_tree.specs.declared.operators.Native.{Native}
use Rattle.dp_tree.specs.declared.operators.UnaryOp.{UnaryOp}
use Rattle.dp_value.specs.declared.value.Value.{Value}
use Rattle.dp_value.specs.declared.value.Value.TheVariants as value
use Rattle.dp_value.specs.Data.{Data}
use Rattle.dp_value.specs.Entry.{write_result}
use Rattle.dp_value.specs.Table.{empty}
use Rattle.dp_value.specs.Value.{data_of}
use Rattle.dp_operations.specs.Binary.{binary_of}
use Rattle.dp_operations.specs.Indices.{found_by, indexed, indexed_by, looked_up}
use Rattle.dp_operations.specs.Unary.{unary_of}
use Rattle.dp_state.specs.Constants.{constant}
use Rattle.dp_state.specs.declared.moments.FatalKind.{FatalKind}
use Rattle.dp_state.specs.declared.moments.MomentKind.{MomentKind}
use Rattle.dp_state.specs.declared.state.State.{State}
use Rattle.dp_state.specs.Functions.{declared_function, is_named as is_named_of}
use Rattle.dp_state.specs.Places.{assigned, keys_of_indices}
use Rattle.dp_tree.specs.Builtins.{builtin_of as builtin_named}
use Rattle.dp_tree.specs.Files.{function_at}
use Rattle.dp_tree.specs.declared.tree.Expression.{Expression, ind-Expression, map-Expression, roll-Expression}
use Rattle.dp_tree.specs.declared.tree.Expression.TheFolds.{fold-roll-Expression, fold-roll-Item, fold-roll-Link, fold-roll-Place}
use Rattle.dp_tree.specs.declared.tree.Expression.TheOpen.{Expression-F, Item-F, Link-F, Place-F}
use Rattle.dp_tree.specs.declared.tree.Function.{Function}
use Rattle.dp_tree.specs.declared.tree.Item.{Item, map-Item, roll-Item}
use Rattle.dp_tree.specs.declared.tree.Link.{Link, map-Link, roll-Link}
use Rattle.dp_tree.specs.declared.tree.Operator.{Operator}
use Rattle.dp_tree.specs.declared.tree.Operator.TheVariants.{Or, And, Of}
use Rattle.dp_tree.specs.declared.tree.Order.{Order}
use Rattle.dp_tree.specs.declared.tree.Place.{Place, map-Place, roll-Place}
use Rattle.dp_actions.specs.Calls.{BuiltIn, Declared, call_run, callee, declared_callee}
use Rattle.dp_actions.specs.Constants.{constant_run}
use Rattle.dp_actions.specs.Expressions.{ExpressionRun, ItemRun, LinkRun, values_run, indices_run, links_run, items_run, operator_run, item_run, coalesced, choice, conditional, place_layer, item_layer, link_layer, expression_layer, expression_run, place_run, evaluation, evaluations}
use Rattle.dp_actions.specs.Expressions.{item_run_of, link_run}
use Rattle.dp_actions.specs.Places.{PlaceRun, assign_run, assigned_under, assignment, coalescing, compound, isset_run, step, variable}
use Rattle.dp_actions.specs.Run.{Run, Done, Over, At, and_then, taken}
use Rattle.dp_actions.specs.Setting.{Setting, Part}
use Rattle.dp_actions.specs.Values.{value_run, write_run, holds, is_missing}
use Rattle.dp_tree.specs.Purity as purity
use Rattle.dp_analysis.specs.Still.{is_declared, is_still, place_is_still, still_layer}
use Rattle.dp_analysis.specs.inner.Parts.{item_is_still, link_is_still}
use Rattle.dp_meaning.proofs.Each.{Each}
use Rattle.dp_meaning.proofs.NativeRuns.{IsNative, WithConstant, WithFault, WithValue, native-is, read-is}
use Rattle.dp_meaning.proofs.PureLaws.{both-true, each-pure}
use Rattle.dp_meaning.specs.Unwatched.{EachMoment}

pub was-not : (b c : Bool) → not b ≡ c → b ≡ not c
was-not true true e = absurd (cc)
was-not true false e = refl
was-not false true e = refl
was-not false false e = absurd (cc)

-- what parts go by, where the calls of this bundle's functions that are not loud have such moments alone
pub record Fits (Such : MomentKind → ℕ → Type 0) (bundle : Bundle) (loud : List ℕ → Bool) (setting : Setting)
    : Type 0 where
  pub same_bundle : setting.bundle ≡ bundle
  pub calls : (reference : FunctionRef) (f : Function) (name : List ℕ) → function_at bundle reference ≡ Some f
      → str_eq_ignore_ascii_case name f.name ≡ true → builtin_named name ≡ None → loud name ≡ false
      → (values : List Value) (s : State) → EachMoment Such (setting.call reference.file f values s)

-- no call of a program's function but such as are loud
pub no-calls : (Such : MomentKind → ℕ → Type 0) (setting : Setting) → Fits Such setting.bundle is_declared setting
no-calls Such setting = record {
  same_bundle = refl;
  calls = λ reference f name at named other quiet values s.
      absurd (let no : true ≡ false = sym (ap (λ b. not (is_some b)) other) ∙ quiet in cc);
}

module _ (Such : MomentKind → ℕ → Type 0) where
  abbrev SuchRun : {A : Type 0} → Run A → Type 0
  SuchRun r = EachMoment Such r

  pub free-then : {A B : Type 0} (r : Run A) (next : A → State → Run B) → SuchRun r
      → ((a : A) (t : State) → SuchRun (next a t)) → SuchRun (and_then r next)
  unfolding and_then
  free-then (Done a s) next h k = k a s
  free-then (Over o s) next h k = tt
  free-then (At kind line s go) next h k = (h.0, λ t. free-then (go t) next (h.1 t) k)

  pub free-if : {A : Type 0} (b : Bool) (x y : Run A) → SuchRun x → SuchRun y → SuchRun (if b then x else y)
  free-if true x y h k = h
  free-if false x y h k = k

  pub free-taken : (r : Result State FatalKind) (s : State) → SuchRun (taken r s)
  free-taken (Ok t) s = tt
  free-taken (Err kind) s = tt

  -- what is native is done at once
  free-native : (r : Run Value) (s : State) → IsNative s r → SuchRun r
  free-native r s (WithValue v e) = subst SuchRun (sym e) tt
  free-native r s (WithConstant name v given e) = subst SuchRun (sym e) tt
  free-native r s (WithFault kind e) = subst SuchRun (sym e) tt

module _ (Such : MomentKind → ℕ → Type 0) (bundle : Bundle) (loud : List ℕ → Bool) (setting : Setting)
    (fits : Fits Such bundle loud setting) where
  abbrev OnFree : {A : Type 0} → Run A → Type 0
  OnFree r = EachMoment Such r

  abbrev FreePart : {A : Type 0} → Part A → Type 0
  FreePart part = (s : State) → OnFree (part setting s)

  free-value : (r : Result Data ValueError) (s : State) → OnFree (value_run r s)
  free-value (Ok v) s = tt
  free-value (Err e) s = tt

  free-write : (r : Result Data WriteError) (s : State) → OnFree (write_run r s)
  free-write (Ok v) s = tt
  free-write (Err e) s = tt

  -- ---- parts

  abbrev FreeExpression : ExpressionRun → Type 0
  FreeExpression e = FreePart e.value × FreePart e.found

  abbrev FreeFrom : (Value → Part Value) → Type 0
  FreeFrom f = (v : Value) → FreePart (f v)

  abbrev FreePlace : PlaceRun → Type 0
  FreePlace place = FreePart place.indices

  free-values : (es : List ExpressionRun) → Each FreeExpression es → FreePart (values_run es)
  free-values [] each s = tt
  free-values (e ∷ es) each s =
      free-then Such _ _ (each.0.0 s) (λ v t. free-then Such _ _ (free-values es each.1 t)
      (λ values u. tt))

  free-indices : (entry : Data → Data → Result Data ValueError) (es : List ExpressionRun) → Each FreeExpression es
      → FreeFrom (indices_run entry es)
  free-indices entry [] each v s = tt
  free-indices entry (e ∷ es) each v s =
      free-then Such _ _ (each.0.0 s) (λ i t. free-then Such _ _ (free-value (entry (data_of v)
      (data_of i)) t)
      (λ w u. free-indices entry es each.1 w u))

  free-links : (links : List LinkRun) → Each FreeFrom links → FreeFrom (links_run links)
  free-links [] each v s = tt
  free-links (link ∷ links) each v s =
      free-then Such _ _ (each.0 v s) (λ w t. free-links links each.1 w t)

  free-items : (items : List ItemRun) → Each FreeFrom items → FreeFrom (items_run items)
  free-items [] each v s = tt
  free-items (item ∷ items) each v s =
      free-then Such _ _ (each.0 v s) (λ w t. free-items items each.1 w t)

  free-isset : (places : List PlaceRun) → Each FreePlace places → FreePart (isset_run places)
  free-isset [] each s = tt
  free-isset (place ∷ places) each s =
      free-then Such _ _ (each.0 s) (λ indices t.
      free-then Such _ _ (free-value (found_by (map data_of indices) (data_of (variable place.name t))) t) (λ v u.
      free-if Such (is_missing v) (Done (value.Bool false) u) (isset_run places setting u) tt
      (free-isset places each.1 u)))

  free-operator : (op : Operator) (right : ExpressionRun) → FreeExpression right → FreeFrom (operator_run op right)
  free-operator Or right keep v s =
      free-if Such (holds v) _ _ tt (free-then Such _ _ (keep.0 s)
      (λ w t. tt))
  free-operator And right keep v s =
      free-if Such (holds v) _ _ (free-then Such _ _ (keep.0 s) (λ w t. tt))
      tt
  free-operator (Of op) right keep v s =
      free-then Such _ _ (keep.0 s) (λ w t. free-value (binary_of op (data_of v) (data_of w)) t)

  free-item : (item : ExpressionRun) → FreeExpression item → FreeFrom (item_run None item)
  free-item item keep array s =
      free-then Such _ _ (keep.0 s) (λ v t. free-write (write_result [] true (data_of v) (data_of array)) t)

  free-keyed : (key item : ExpressionRun) → FreeExpression key → FreeExpression item
      → FreeFrom (item_run (Some key) item)
  free-keyed key item first keep array s =
      free-then Such _ _ (first.0 s) (λ k t. free-then Such _ _ (keep.0 t) (λ v u.
      free-write (write_result (keys_of_indices (k ∷ [])) false (data_of v) (data_of array)) u))

  -- ---- places

  free-assign : (name : List ℕ) (indices : List Value) (push : Bool) (v : Value) (s : State)
      → OnFree (assign_run name indices push v s)
  free-assign name indices push v s =
      free-then Such _ _ (free-taken Such (assigned 0 name (keys_of_indices indices) push v s) s)
      (λ _ t. tt)

  module _ (place : PlaceRun) (quiet : FreePlace place) where
    free-step : (op : UnaryOp) (order : Order) → FreePart (step op order place)
    free-step op order s =
        free-then Such _ _ (quiet s) (λ indices t.
        free-then Such _ _ (free-value (indexed_by (map data_of indices) (data_of (variable place.name t))) t)
        (λ old u.
        free-then Such _ _ (free-value (unary_of op (data_of old)) u) (λ new w.
        free-then Such _ _ (free-assign place.name indices false new w) (λ _ x. tt))))

    module _ (right : Part Value) (keep : FreePart right) where
      free-under : (push : Bool) (indices : List Value) → FreePart (assigned_under push place.name right indices)
      free-under push indices s =
          free-then Such _ _ (keep s) (λ v t. free-assign place.name indices push v t)

      free-assignment : (push : Bool) → FreePart (assignment push place right)
      free-assignment push s =
          free-then Such _ _ (quiet s) (λ indices t. free-under push indices t)

      free-compound : (op : BinaryOp) → FreePart (compound op place right)
      free-compound op s =
          free-then Such _ _ (quiet s) (λ indices t.
          free-then Such _ _ (free-value (indexed_by (map data_of indices) (data_of
          (variable place.name t))) t) (λ old u.
          free-then Such _ _ (keep u) (λ v w.
          free-then Such _ _ (free-value (binary_of op (data_of old) (data_of v)) w)
          (λ new x. free-assign place.name indices false new x))))

      free-coalescing : FreePart (coalescing place right)
      free-coalescing s =
          free-then Such _ _ (quiet s) (λ indices t.
          free-then Such _ _ (free-value (found_by (map data_of indices) (data_of (variable place.name t))) t)
          (λ old u.
          free-if Such (is_missing old) _ _ (free-under false indices u) tt))

  -- ---- calls

  abbrev WithName : List ℕ → Option FunctionRef → Type 0
  WithName name o = (reference : FunctionRef) → o ≡ Some reference → is_named_of bundle name reference ≡ true

  first-named : (name : List ℕ) (f : FunctionRef) (fs : List FunctionRef)
      → WithName name (declared_function bundle name fs) → (reference : FunctionRef) (b : Bool)
      → is_named_of bundle name f ≡ b → (if b then Some f else declared_function bundle name fs) ≡ Some reference
      → is_named_of bundle name reference ≡ true
  first-named name f fs more reference true named is =
      let same : f ≡ reference = cc in ap (is_named_of bundle name) (sym same) ∙ named
  first-named name f fs more reference false named is = more reference is

  -- what is found under a name has that name
  has-name : (name : List ℕ) (declared : List FunctionRef) → WithName name (declared_function bundle name declared)
  has-name name [] reference is = absurd (cc)
  has-name name (f ∷ fs) reference is = first-named name f fs (has-name name fs) reference
      (is_named_of bundle name f) refl is

  module _ (name : List ℕ) (arguments : List ExpressionRun) (each : Each FreeExpression arguments)
      (quiet : loud name ≡ false) (s : State) where
    free-at : builtin_named name ≡ None → (reference : FunctionRef) → is_named_of bundle name reference ≡ true
        → (f : Option Function)
        → function_at bundle reference ≡ f
        → OnFree (call_run (option_map_or (λ g. Some (Declared reference.file g)) f None) (values_run arguments)
        setting s)
    free-at other reference named None is = tt
    free-at other reference named (Some f) is =
        let same : str_eq_ignore_ascii_case name f.name ≡ true =
        sym (ap (λ o. option_map_or (λ (g : Function). str_eq_ignore_ascii_case name g.name) o false) is) ∙ named in
        free-then Such _ _ (free-values arguments each s)
        (λ values t. fits.calls reference f name is same other quiet values t)

    free-declared : builtin_named name ≡ None → (o : Option FunctionRef) → WithName name o
        → OnFree (call_run (option_map_or (declared_callee bundle) o None) (values_run arguments) setting s)
    free-declared other None named = tt
    free-declared other (Some reference) named =
        free-at other reference (named reference refl) (function_at bundle reference) refl

    free-callee : (b : Option Native) → builtin_named name ≡ b → (o : Option FunctionRef) → WithName name o
        → OnFree (call_run (option_map_or (λ f. Some (BuiltIn f)) b (option_map_or (declared_callee bundle) o None))
        (values_run arguments) setting s)
    free-callee None other o named = free-declared other o named
    free-callee (Some b) is o named =
        free-then Such _ _ (free-values arguments each s)
        (λ values t. free-native Such _ t (native-is b values t))

    free-call : OnFree (call_run (callee setting.bundle name s) (values_run arguments) setting s)
    free-call =
        subst (λ (made : Bundle). OnFree (call_run (callee made name s) (values_run arguments) setting s))
        (sym fits.same_bundle)
        (free-callee (builtin_named name) refl (declared_function bundle name s.declared) (has-name name s.declared))

  -- ---- whole trees

  abbrev Good : Expression → Type 0
  Good e = is_still loud e ≡ true → FreeExpression (expression_run e)

  abbrev GoodItem : Item → Type 0
  GoodItem item = item_is_still loud item ≡ true → FreeFrom (item_run_of item)

  abbrev GoodLink : Link → Type 0
  GoodLink link = link_is_still loud link ≡ true → FreeFrom (link_run link)

  abbrev GoodPlace : Place → Type 0
  GoodPlace place = place_is_still loud place ≡ true → FreePlace (place_run place)

  abbrev WithExpression : Type 0
  WithExpression = (e : Expression) × Good e

  abbrev WithItem : Type 0
  WithItem = (e : Item) × GoodItem e

  abbrev WithLink : Type 0
  WithLink = (e : Link) × GoodLink e

  abbrev WithPlace : Type 0
  WithPlace = (e : Place) × GoodPlace e

  abbrev WithGood : Type 0
  WithGood = Expression-F WithExpression WithItem WithLink WithPlace

  abbrev Parts : Type 0
  Parts = Expression-F Expression Item Link Place

  abbrev parts : WithGood → Parts
  parts y =
      map-Expression WithExpression WithItem WithLink WithPlace Expression Item Link Place (λ e. e.0) (λ e. e.0)
      (λ e. e.0) (λ e. e.0) y

  abbrev runs : Parts → Expression-F ExpressionRun ItemRun LinkRun PlaceRun
  runs x =
      map-Expression Expression Item Link Place ExpressionRun ItemRun LinkRun PlaceRun expression_run item_run_of
      link_run
      place_run x

  abbrev tests : Parts → Expression-F Bool Bool Bool Bool
  tests x =
      map-Expression Expression Item Link Place Bool Bool Bool Bool (is_still loud)
      (item_is_still loud) (link_is_still loud) (place_is_still loud) x

  free-choice : (o : Option ExpressionRun) (v : Value) → ((e : ExpressionRun) → o ≡ Some e → FreeExpression e)
      → FreePart (choice o v)
  free-choice None v keep s = tt
  free-choice (Some e) v keep s = (keep e refl).0 s

  free-conditional : (test otherwise : ExpressionRun) (o : Option ExpressionRun) → FreeExpression test
      → FreeExpression otherwise
      → ((e : ExpressionRun) → o ≡ Some e → FreeExpression e) → FreePart (conditional test o otherwise)
  free-conditional test otherwise o h k keep s =
      free-then Such _ _ (h.0 s) (λ v t. free-if Such (holds v) _ _ (free-choice o v keep t) (k.0 t))

  free-coalesced : (left right : ExpressionRun) → FreeExpression left → FreeExpression right
      → FreePart (coalesced left right)
  free-coalesced left right h k s =
      free-then Such _ _ (h.1 s) (λ v t. free-if Such (is_missing v) _ _ (k.0 t) tt)

  free-layer : (y : WithGood) → still_layer loud (tests (parts y)) ≡ true
      → FreeExpression (expression_layer (runs (parts y)))
  free-layer Expression-F.Null all = (λ s. tt, λ s. tt)
  free-layer (Expression-F.Bool b) all = (λ s. tt, λ s. tt)
  free-layer (Expression-F.Number m) all = (λ s. tt, λ s. tt)
  free-layer (Expression-F.Text bytes) all = (λ s. tt, λ s. tt)
  free-layer (Expression-F.Variable name) all = (λ s. tt, λ s. tt)
  free-layer (Expression-F.Constant name) all =
      let k : FreePart (λ setting s. constant_run name s) =
      λ s. free-native Such _ s (read-is (constant name s) s) in (k, k)
  free-layer (Expression-F.Array items) all =
      let k = free-items _ (each-pure (item_is_still loud) item_run_of FreeFrom items all) (value.Array empty) in
      (k, k)
  free-layer (Expression-F.Call name arguments) all =
      let h = both-true (not (loud name)) _ all in
      let k = free-call name _ (each-pure (is_still loud) expression_run FreeExpression arguments h.1)
      (was-not (loud name) true h.0) in (k, k)
  free-layer (Expression-F.Isset places) all =
      let k = free-isset _ (each-pure (place_is_still loud) place_run FreePlace places all) in (k, k)
  free-layer (Expression-F.Index base indices) all =
      let h = both-true (is_still loud base.0) _ all in
      let each = each-pure (is_still loud) expression_run FreeExpression indices h.1 in
      let b = base.1 h.0 in (
        λ s. free-then Such _ _ (b.0 s) (λ v t. free-indices indexed _ each v t),
        λ s. free-then Such _ _ (b.1 s) (λ v t. free-indices looked_up _ each v t),
      )
  free-layer (Expression-F.Unary op e) all =
      let k : FreePart (λ setting s. and_then ((expression_run e.0).value setting s)
      (λ v t. value_run (unary_of op (data_of v)) t)) =
      λ s. free-then Such _ _ ((e.1 all).0 s) (λ v t. free-value (unary_of op (data_of v)) t) in (k, k)
  free-layer (Expression-F.Step op order place) all =
      let k = free-step (place_run place.0) (place.1 all) op order in (k, k)
  free-layer (Expression-F.Chain first links) all =
      let h = both-true (is_still loud first.0) _ all in
      let k : FreePart (λ setting s. and_then ((expression_run first.0).value setting s)
      (λ v t. links_run (map link_run (map
      (λ e. e.0) links)) v setting t)) =
      λ s. free-then Such _ _ ((first.1 h.0).0 s) (λ v t. free-links _
      (each-pure (link_is_still loud) link_run FreeFrom links h.1) v t) in (k, k)
  free-layer (Expression-F.Coalesce left right) all =
      let h = both-true (is_still loud left.0) (is_still loud right.0) all in
      let k = free-coalesced (expression_run left.0) (expression_run right.0) (left.1 h.0) (right.1 h.1) in (k, k)
  free-layer (Expression-F.Conditional test None otherwise) all =
      let h = both-true (is_still loud test.0) _ all in
      let i = both-true true (is_still loud otherwise.0) h.1 in
      let k = free-conditional (expression_run test.0) (expression_run otherwise.0) None (test.1 h.0) (otherwise.1 i.1)
      (λ e is. absurd (cc)) in (k, k)
  free-layer (Expression-F.Conditional test (Some middle) otherwise) all =
      let h = both-true (is_still loud test.0) _ all in
      let i = both-true (is_still loud middle.0) (is_still loud otherwise.0) h.1 in
      let k = free-conditional (expression_run test.0) (expression_run otherwise.0) (Some (expression_run middle.0))
      (test.1 h.0) (otherwise.1 i.1)
      (λ e is. let same : expression_run middle.0 ≡ e = cc in subst FreeExpression same (middle.1 i.0)) in (k, k)
  free-layer (Expression-F.Include how e) all = absurd (cc)
  free-layer (Expression-F.Assign place right) all =
      let h = both-true (place_is_still loud place.0) (is_still loud right.0) all in
      let k = free-assignment (place_run place.0) (place.1 h.0) (evaluation right.0) (right.1 h.1).0 false in (k, k)
  free-layer (Expression-F.Compound op place right) all =
      let h = both-true (place_is_still loud place.0) (is_still loud right.0) all in
      let k = free-compound (place_run place.0) (place.1 h.0) (evaluation right.0) (right.1 h.1).0 op in (k, k)
  free-layer (Expression-F.CoalesceAssign place right) all =
      let h = both-true (place_is_still loud place.0) (is_still loud right.0) all in
      let k = free-coalescing (place_run place.0) (place.1 h.0) (evaluation right.0) (right.1 h.1).0 in (k, k)
  free-layer (Expression-F.Push place right) all =
      let h = both-true (place_is_still loud place.0) (is_still loud right.0) all in
      let k = free-assignment (place_run place.0) (place.1 h.0) (evaluation right.0) (right.1 h.1).0 true in (k, k)

  abbrev parts-item : Item-F WithExpression WithItem WithLink WithPlace → Item-F Expression Item Link Place
  parts-item y =
      map-Item WithExpression WithItem WithLink WithPlace Expression Item Link Place (λ e. e.0) (λ e. e.0) (λ e. e.0)
      (λ e. e.0) y

  free-item-layer : (key : Option WithExpression) (item : WithExpression)
      → (let y : Item-F WithExpression WithItem WithLink WithPlace = record { key = key; value = item } in
      purity.item_layer (map-Item Expression Item Link Place Bool Bool Bool Bool (is_still loud)
      (item_is_still loud) (link_is_still loud) (place_is_still loud) (parts-item y)) ≡ true
      → FreeFrom (item_layer (map-Item Expression Item Link Place ExpressionRun ItemRun LinkRun PlaceRun expression_run
      item_run_of link_run
      place_run (parts-item y))))
  free-item-layer None item all =
      free-item (expression_run item.0) (item.1 (both-true true (is_still loud item.0) all).1)
  free-item-layer (Some key) item all =
      let h = both-true (is_still loud key.0) (is_still loud item.0) all in
      free-keyed (expression_run key.0) (expression_run item.0) (key.1 h.0) (item.1 h.1)

  step-expression : (x : Parts) (y : WithGood) → parts y ≡ x → Good (roll-Expression x)
  unfolding expression_run item_run_of link_run place_run
  step-expression x y is = subst (λ z. Good (roll-Expression z)) is (λ all.
      subst FreeExpression (sym (fold-roll-Expression ExpressionRun ItemRun LinkRun PlaceRun expression_layer item_layer
      link_layer place_layer
      (parts y)))
      (free-layer y (sym (fold-roll-Expression Bool Bool Bool Bool (still_layer loud) purity.item_layer
      purity.link_layer purity.place_layer
      (parts y)) ∙ all)))

  step-item : (x : Item-F Expression Item Link Place) (y : Item-F WithExpression WithItem WithLink WithPlace)
      → parts-item y ≡ x
      → GoodItem (roll-Item x)
  unfolding expression_run item_run_of link_run place_run
  step-item x y is = subst (λ z. GoodItem (roll-Item z)) is (λ all.
      subst FreeFrom (sym (fold-roll-Item ExpressionRun ItemRun LinkRun PlaceRun expression_layer item_layer link_layer
      place_layer _))
      (free-item-layer y.key y.value (sym
      (fold-roll-Item Bool Bool Bool Bool (still_layer loud) purity.item_layer purity.link_layer
      purity.place_layer _) ∙ all)))

  step-link : (x : Link-F Expression Item Link Place) (y : Link-F WithExpression WithItem WithLink WithPlace)
      → map-Link WithExpression WithItem WithLink WithPlace Expression Item Link Place (λ e. e.0) (λ e. e.0) (λ e. e.0)
      (λ e. e.0) y ≡ x
      → GoodLink (roll-Link x)
  unfolding expression_run item_run_of link_run place_run
  step-link x y is = subst (λ z. GoodLink (roll-Link z)) is (λ all.
      subst FreeFrom (sym (fold-roll-Link ExpressionRun ItemRun LinkRun PlaceRun expression_layer item_layer link_layer
      place_layer _))
      (free-operator y.operator (expression_run y.operand.0)
      (y.operand.1 (sym (fold-roll-Link Bool Bool Bool Bool (still_layer loud) purity.item_layer
      purity.link_layer purity.place_layer _) ∙ all))))

  step-place : (x : Place-F Expression Item Link Place) (y : Place-F WithExpression WithItem WithLink WithPlace)
      → map-Place WithExpression WithItem WithLink WithPlace Expression Item Link Place (λ e. e.0) (λ e. e.0) (λ e. e.0)
      (λ e. e.0) y ≡ x
      → GoodPlace (roll-Place x)
  unfolding expression_run item_run_of link_run place_run
  step-place x y is = subst (λ z. GoodPlace (roll-Place z)) is (λ all.
      subst FreePlace (sym (fold-roll-Place ExpressionRun ItemRun LinkRun PlaceRun expression_layer item_layer
      link_layer
      place_layer _))
      (free-values _ (each-pure (is_still loud) expression_run FreeExpression y.indices
      (sym (fold-roll-Place Bool Bool Bool Bool (still_layer loud) purity.item_layer
      purity.link_layer purity.place_layer _) ∙ all))))

  free-good : (e : Expression) → Good e
  free-good = ind-Expression Good GoodItem GoodLink GoodPlace step-expression step-item step-link step-place

  pub free-expression : (e : Expression) → is_still loud e ≡ true → FreePart (evaluation e)
  free-expression e still = (free-good e still).0

  -- the same of expressions, one after another
  pub free-all : (es : List Expression) → list_all (is_still loud) es ≡ true → FreePart (evaluations es)
  free-all [] h s = tt
  free-all (e ∷ es) h s =
      let both = both-true (is_still loud e) (list_all (is_still loud) es) h in
      free-then Such _ _ (free-expression e both.0 s)
      (λ v t. free-then Such _ _ (free-all es both.1 t) (λ values u. tt))
