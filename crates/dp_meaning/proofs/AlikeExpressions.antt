-- What is kept by each step of a program is kept by expressions.
use Rattle.std.proofs.Common.{◌≡◌, true, false, List, [], ◌∷◌, map, Option, Some, None, Result, refl, sym, subst}
use Rattle.dp_tree.specs.declared.bundle.Bundle.{Bundle}
use Rattle.dp_value.specs.declared.errors.ValueError.{ValueError}
use Rattle.dp_value.specs.declared.value.Value.{Value}
use Rattle.dp_value.specs.declared.value.Value.TheVariants as value
use Rattle.dp_value.specs.Data.{Data}
use Rattle.dp_value.specs.Entry.{write_result}
use Rattle.dp_value.specs.Table.{empty}
use Rattle.dp_value.specs.Value.{data_of}
use Rattle.dp_operations.specs.Binary.{binary_of}
use Rattle.dp_operations.specs.Indices.{indexed, looked_up}
use Rattle.dp_operations.specs.Unary.{unary_of}
use Rattle.dp_state.specs.Constants.{constant}
use Rattle.dp_state.specs.declared.state.State.{State}
use Rattle.dp_state.specs.Places.{keys_of_indices}
use Rattle.dp_tree.specs.declared.tree.Expression.{Expression, ind-Expression, map-Expression, roll-Expression}
use Rattle.dp_tree.specs.declared.tree.Expression.TheFolds.{fold-roll-Expression, fold-roll-Item, fold-roll-Link, fold-roll-Place}
use Rattle.dp_tree.specs.declared.tree.Expression.TheOpen.{Expression-F, Item-F, Link-F, Place-F}
use Rattle.dp_tree.specs.declared.tree.Item.{Item, map-Item, roll-Item}
use Rattle.dp_tree.specs.declared.tree.Link.{Link, map-Link, roll-Link}
use Rattle.dp_tree.specs.declared.tree.Operator.{Operator}
use Rattle.dp_tree.specs.declared.tree.Operator.TheVariants.{Or, And, Of}
use Rattle.dp_tree.specs.declared.tree.Place.{Place, map-Place, roll-Place, ind-Place}
use Rattle.dp_actions.specs.Constants.{constant_run}
use Rattle.dp_actions.specs.Expressions.{ExpressionRun, ItemRun, LinkRun, values_run, indices_run, links_run, items_run, operator_run, item_run, choice, conditional, coalesced, chained, operated, included, plain, place_layer, item_layer, link_layer, expression_layer, expression_run, place_run, evaluations}
use Rattle.dp_actions.specs.Expressions.{item_run_of, link_run}
use Rattle.dp_actions.specs.Places.{PlaceRun, variable}
use Rattle.dp_actions.specs.Run.{Done}
use Rattle.dp_actions.specs.Setting.{Setting, Part}
use Rattle.dp_actions.specs.Values.{holds, is_missing}
use Rattle.dp_meaning.proofs.NativeRuns.{read-is}
use Rattle.dp_meaning.proofs.Alike.{Alike-native, AreAlike, Facts, IsKept, KeepsPart, Keeps-and_then, Keeps-value, Keeps-write, Alike-if}
use Rattle.dp_meaning.proofs.Each.{Each, each-images}
use Rattle.dp_meaning.proofs.AlikeCalls.{Keeps-named, Keeps-include}
use Rattle.dp_meaning.proofs.AlikePlaces.{KeepsPlace, Keeps-assignment, Keeps-coalescing, Keeps-compound, Keeps-isset, Keeps-step}

module _ {D : Type 0} (F : Facts D) (bundle : Bundle) (kept : IsKept F bundle) (d : D) (x y : Setting)
    (good : AreAlike F bundle d x y) where
  abbrev pub KeepsExpression : ExpressionRun → Type 0
  KeepsExpression e = KeepsPart F d x y e.value × KeepsPart F d x y e.found

  -- from each value on: links and items
  abbrev pub KeepsFrom : (Value → Part Value) → Type 0
  KeepsFrom f = (v : Value) → KeepsPart F d x y (f v)

  -- ---- parts in their order

  pub Keeps-values : (es : List ExpressionRun) → Each KeepsExpression es → KeepsPart F d x y (values_run es)
  Keeps-values [] each n s p = (p, refl, refl)
  Keeps-values (e ∷ es) each n s p =
      Keeps-and_then F d n _ _ _ _ (each.0.0 n s p) (λ v n t p.
      Keeps-and_then F d n _ _ _ _ (Keeps-values es each.1 n t p) (λ values n u p. (p, refl, refl)))

  pub Keeps-indices : (entry : Data → Data → Result Data ValueError) (es : List ExpressionRun) → Each KeepsExpression es
      → KeepsFrom (indices_run entry es)
  Keeps-indices entry [] each v n s p = (p, refl, refl)
  Keeps-indices entry (e ∷ es) each v n s p =
      Keeps-and_then F d n _ _ _ _ (each.0.0 n s p) (λ i n t p.
      Keeps-and_then F d n _ _ _ _ (Keeps-value F (entry (data_of v) (data_of i)) d n t p)
      (λ w. Keeps-indices entry es each.1 w))

  pub Keeps-links : (links : List LinkRun) → Each KeepsFrom links → KeepsFrom (links_run links)
  Keeps-links [] each v n s p = (p, refl, refl)
  Keeps-links (link ∷ links) each v n s p =
      Keeps-and_then F d n _ _ _ _ (each.0 v n s p) (λ w. Keeps-links links each.1 w)

  pub Keeps-items : (items : List ItemRun) → Each KeepsFrom items → KeepsFrom (items_run items)
  Keeps-items [] each v n s p = (p, refl, refl)
  Keeps-items (item ∷ items) each v n s p =
      Keeps-and_then F d n _ _ _ _ (each.0 v n s p) (λ w. Keeps-items items each.1 w)

  -- ---- operators

  pub Keeps-operator : (op : Operator) (right : ExpressionRun) → KeepsExpression right
      → KeepsFrom (operator_run op right)
  Keeps-operator Or right keep v n s p =
      Alike-if F (holds v) d n _ _ _ _ (p, refl, refl) (Keeps-and_then F d n _ _ _ _ (keep.0 n s p)
      (λ w n t p. (p, refl, refl)))
  Keeps-operator And right keep v n s p =
      Alike-if F (holds v) d n _ _ _ _ (Keeps-and_then F d n _ _ _ _ (keep.0 n s p) (λ w n t p. (p, refl, refl)))
      (p, refl, refl)
  Keeps-operator (Of op) right keep v n s p =
      Keeps-and_then F d n _ _ _ _ (keep.0 n s p) (λ w. Keeps-value F (binary_of op (data_of v) (data_of w)) d)

  pub Keeps-item : (item : ExpressionRun) → KeepsExpression item → KeepsFrom (item_run None item)
  Keeps-item item keep array n s p =
      Keeps-and_then F d n _ _ _ _ (keep.0 n s p) (λ v. Keeps-write F
      (write_result [] true (data_of v) (data_of array)) d)

  pub Keeps-keyed : (key item : ExpressionRun) → KeepsExpression key → KeepsExpression item
      → KeepsFrom (item_run (Some key) item)
  Keeps-keyed key item first keep array n s p =
      Keeps-and_then F d n _ _ _ _ (first.0 n s p) (λ k n t p.
      Keeps-and_then F d n _ _ _ _ (keep.0 n t p) (λ v. Keeps-write F
      (write_result (keys_of_indices (k ∷ [])) false (data_of v)
      (data_of array)) d))

  -- ---- whole trees

  abbrev Good : Expression → Type 0
  Good e = KeepsExpression (expression_run e)

  abbrev GoodItem : Item → Type 0
  GoodItem item = KeepsFrom (item_run_of item)

  abbrev GoodLink : Link → Type 0
  GoodLink link = KeepsFrom (link_run link)

  abbrev GoodPlace : Place → Type 0
  GoodPlace place = KeepsPlace F bundle kept d x y (place_run place)

  -- parts with proofs that they keep it
  abbrev WithExpression : Type 0
  WithExpression = (e : Expression) × Good e

  abbrev WithItem : Type 0
  WithItem = (e : Item) × GoodItem e

  abbrev WithLink : Type 0
  WithLink = (e : Link) × GoodLink e

  abbrev WithPlace : Type 0
  WithPlace = (e : Place) × GoodPlace e

  abbrev WithGood : Type 0
  WithGood = Expression-F WithExpression WithItem WithLink WithPlace

  abbrev Whole : Type 0
  Whole = Expression-F Expression Item Link Place

  abbrev parts : WithGood → Whole
  parts y = map-Expression WithExpression WithItem WithLink WithPlace
      Expression Item Link Place (λ e. e.0) (λ e. e.0) (λ e. e.0) (λ e. e.0) y

  abbrev runs : Whole → Expression-F ExpressionRun ItemRun LinkRun PlaceRun
  runs x =
      map-Expression Expression Item Link Place ExpressionRun ItemRun LinkRun PlaceRun expression_run item_run_of
      link_run place_run x

  keeps-choice : (o : Option ExpressionRun) (v : Value) → ((e : ExpressionRun) → o ≡ Some e → KeepsExpression e)
      → KeepsPart F d x y (choice o v)
  keeps-choice None v keep n s p = (p, refl, refl)
  keeps-choice (Some e) v keep n s p = (keep e refl).0 n s p

  keeps-conditional : (test otherwise : ExpressionRun) (o : Option ExpressionRun) → KeepsExpression test
      → KeepsExpression otherwise
      → ((e : ExpressionRun) → o ≡ Some e → KeepsExpression e) → KeepsPart F d x y (conditional test o otherwise)
  keeps-conditional test otherwise o h k keep n s p =
      Keeps-and_then F d n _ _ _ _ (h.0 n s p) (λ v n t p.
      Alike-if F (holds v) d n _ _ _ _ (keeps-choice o v keep n t p) (k.0 n t p))

  keeps-coalesce : (left right : ExpressionRun) → KeepsExpression left → KeepsExpression right
      → KeepsPart F d x y (coalesced left right)
  keeps-coalesce left right h k n s p =
      Keeps-and_then F d n _ _ _ _ (h.1 n s p) (λ v n t p. Alike-if F (is_missing v) d n _ _ _ _ (k.0 n t p)
      (p, refl, refl))

  -- one that is a value at once
  leaf : (f : State → Value) → KeepsExpression (plain (λ setting s. Done (f s) s))
  leaf f = (λ n s p. (p, refl, refl), λ n s p. (p, refl, refl))

  keeps-layer : (y : WithGood) → KeepsExpression (expression_layer (runs (parts y)))
  keeps-layer Expression-F.Null = leaf (λ s. value.Null)
  keeps-layer (Expression-F.Bool b) = leaf (λ s. value.Bool b)
  keeps-layer (Expression-F.Number m) = leaf (λ s. value.Int m)
  keeps-layer (Expression-F.Text bytes) = leaf (λ s. value.Text bytes)
  keeps-layer (Expression-F.Variable name) = leaf (λ s. variable name s)
  keeps-layer (Expression-F.Constant name) =
      let k : KeepsPart F d x y (λ setting s. constant_run name s) =
      λ n s p. Alike-native F bundle kept _ d n s (read-is (constant name s) s) p in (k, k)
  keeps-layer (Expression-F.Array items) =
      let k = Keeps-items _ (each-images item_run_of KeepsFrom items) (value.Array empty) in (k, k)
  keeps-layer (Expression-F.Call name arguments) =
      let k = Keeps-named F bundle kept d x y good name _ (Keeps-values _
      (each-images expression_run KeepsExpression arguments)) in (k, k)
  keeps-layer (Expression-F.Isset places) =
      let k = Keeps-isset F bundle kept d x y _ (each-images place_run (KeepsPlace F bundle kept d x y) places) in
      (k, k)
  keeps-layer (Expression-F.Index base indices) =
      let each = each-images expression_run KeepsExpression indices in (
        λ n s p. Keeps-and_then F d n _ _ _ _ (base.1.0 n s p) (λ v. Keeps-indices indexed _ each v),
        λ n s p. Keeps-and_then F d n _ _ _ _ (base.1.1 n s p)
            (λ v. Keeps-indices looked_up _ each v),
      )
  keeps-layer (Expression-F.Unary op e) =
      let k : KeepsPart F d x y (operated op (expression_run e.0)) =
      λ n s p. Keeps-and_then F d n _ _ _ _ (e.1.0 n s p) (λ v. Keeps-value F (unary_of op (data_of v)) d) in (k, k)
  keeps-layer (Expression-F.Step op order place) =
      let k = Keeps-step F bundle kept d x y (place_run place.0) place.1 op order in (k, k)
  keeps-layer (Expression-F.Chain first links) =
      let k : KeepsPart F d x y (chained (expression_run first.0) (map link_run (map (λ e. e.0) links))) =
      λ n s p. Keeps-and_then F d n _ _ _ _ (first.1.0 n s p)
      (λ v. Keeps-links _ (each-images link_run KeepsFrom links) v) in (k, k)
  keeps-layer (Expression-F.Coalesce left right) =
      let k = keeps-coalesce (expression_run left.0) (expression_run right.0) left.1 right.1 in (k, k)
  keeps-layer (Expression-F.Conditional test None otherwise) =
      let k = keeps-conditional (expression_run test.0) (expression_run otherwise.0) None test.1 otherwise.1
      (λ e h. absurd (cc)) in (k, k)
  keeps-layer (Expression-F.Conditional test (Some middle) otherwise) =
      let k = keeps-conditional (expression_run test.0) (expression_run otherwise.0)
      (Some (expression_run middle.0)) test.1 otherwise.1
      (λ e h. let same : expression_run middle.0 ≡ e = cc in subst KeepsExpression same middle.1) in (k, k)
  keeps-layer (Expression-F.Include how e) =
      let k : KeepsPart F d x y (included how (expression_run e.0)) =
      λ n s p. Keeps-and_then F d n _ _ _ _ (e.1.0 n s p) (λ v. Keeps-include F bundle kept d x y good how v) in (k, k)
  keeps-layer (Expression-F.Assign place right) =
      let k = Keeps-assignment F bundle kept d x y (place_run place.0) place.1
      (expression_run right.0).value right.1.0 false in (k, k)
  keeps-layer (Expression-F.Compound op place right) =
      let k = Keeps-compound F bundle kept d x y (place_run place.0) place.1
      (expression_run right.0).value right.1.0 op in (k, k)
  keeps-layer (Expression-F.CoalesceAssign place right) =
      let k = Keeps-coalescing F bundle kept d x y (place_run place.0) place.1
      (expression_run right.0).value right.1.0 in (k, k)
  keeps-layer (Expression-F.Push place right) =
      let k = Keeps-assignment F bundle kept d x y (place_run place.0) place.1
      (expression_run right.0).value right.1.0 true in (k, k)

  abbrev parts-item : Item-F WithExpression WithItem WithLink WithPlace → Item-F Expression Item Link Place
  parts-item y =
      map-Item WithExpression WithItem WithLink WithPlace Expression Item Link Place (λ e. e.0) (λ e. e.0) (λ e. e.0)
      (λ e. e.0) y

  keeps-item : (key : Option WithExpression) (item : WithExpression)
      → (let y : Item-F WithExpression WithItem WithLink WithPlace = record { key = key; value = item } in
      KeepsFrom (item_layer (map-Item Expression Item Link Place ExpressionRun ItemRun LinkRun PlaceRun expression_run
      item_run_of link_run
      place_run (parts-item y))))
  keeps-item None item = Keeps-item (expression_run item.0) item.1
  keeps-item (Some key) item = Keeps-keyed (expression_run key.0) (expression_run item.0) key.1 item.1

  -- each layer, once its parts are known to
  step-expression : (w : Whole) (z : WithGood) → parts z ≡ w → Good (roll-Expression w)
  unfolding expression_run item_run_of link_run place_run
  step-expression w z is = subst (λ z. Good (roll-Expression z)) is
      (subst KeepsExpression (sym (fold-roll-Expression ExpressionRun ItemRun LinkRun PlaceRun expression_layer
      item_layer link_layer place_layer
      (parts z))) (keeps-layer z))

  step-item : (w : Item-F Expression Item Link Place) (z : Item-F WithExpression WithItem WithLink WithPlace)
      → parts-item z ≡ w
      → GoodItem (roll-Item w)
  unfolding expression_run item_run_of link_run place_run
  step-item w z is = subst (λ z. GoodItem (roll-Item z)) is
      (subst KeepsFrom (sym (fold-roll-Item ExpressionRun ItemRun LinkRun PlaceRun expression_layer item_layer
      link_layer place_layer _))
      (keeps-item z.key z.value))

  step-link : (w : Link-F Expression Item Link Place) (z : Link-F WithExpression WithItem WithLink WithPlace)
      → map-Link WithExpression WithItem WithLink WithPlace Expression Item Link Place (λ e. e.0) (λ e. e.0) (λ e. e.0)
      (λ e. e.0) z ≡ w
      → GoodLink (roll-Link w)
  unfolding expression_run item_run_of link_run place_run
  step-link w z is = subst (λ z. GoodLink (roll-Link z)) is
      (subst KeepsFrom (sym (fold-roll-Link ExpressionRun ItemRun LinkRun PlaceRun expression_layer item_layer
      link_layer place_layer _))
      (Keeps-operator z.operator (expression_run z.operand.0) z.operand.1))

  step-place : (w : Place-F Expression Item Link Place) (z : Place-F WithExpression WithItem WithLink WithPlace)
      → map-Place WithExpression WithItem WithLink WithPlace Expression Item Link Place (λ e. e.0) (λ e. e.0) (λ e. e.0)
      (λ e. e.0) z ≡ w
      → GoodPlace (roll-Place w)
  unfolding expression_run item_run_of link_run place_run
  step-place w z is = subst (λ z. GoodPlace (roll-Place z)) is
      (subst (KeepsPlace F bundle kept d x y) (sym
      (fold-roll-Place ExpressionRun ItemRun LinkRun PlaceRun expression_layer item_layer link_layer place_layer _))
      (Keeps-values _ (each-images expression_run KeepsExpression z.indices)))

  pub Keeps-expression : (e : Expression) → KeepsExpression (expression_run e)
  Keeps-expression e = ind-Expression Good GoodItem GoodLink GoodPlace step-expression step-item step-link step-place e

  pub Keeps-place : (place : Place) → KeepsPlace F bundle kept d x y (place_run place)
  Keeps-place place = ind-Place Good GoodItem GoodLink GoodPlace step-expression step-item step-link step-place place

  pub Keeps-evaluations : (es : List Expression) → KeepsPart F d x y (evaluations es)
  Keeps-evaluations es = Keeps-values (map expression_run es) (all es)
    where
      all : (es : List Expression) → Each KeepsExpression (map expression_run es)
      all [] = tt
      all (e ∷ es) = (Keeps-expression e, all es)
