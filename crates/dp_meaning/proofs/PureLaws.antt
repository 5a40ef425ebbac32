-- An expression without calls, assignments, steps and includes gives a value or is fatal, and leaves the state as it
-- is.
use Rattle.std.proofs.Common.{◌≡◌, Bool, true, false, ◌&&◌, if◌then◌else◌, List, [], ◌∷◌, map, Option, Some, None, Result, Ok, Err, refl, sym, ap, ◌∙◌, subst}
use Rattle.dp_value.specs.declared.errors.ValueError.{ValueError}
use Rattle.dp_value.specs.declared.errors.WriteError.{WriteError}
use Rattle.dp_value.specs.declared.value.Value.{Value}
use Rattle.dp_value.specs.declared.value.Value.TheVariants as value
use Rattle.dp_value.specs.Data.{Data}
use Rattle.dp_value.specs.Entry.{write_result}
use Rattle.dp_value.specs.Table.{empty}
use Rattle.dp_value.specs.Value.{data_of}
use Rattle.dp_operations.specs.Binary.{binary_of}
use Rattle.dp_operations.specs.Indices.{found_by, indexed, looked_up}
use Rattle.dp_operations.specs.Unary.{unary_of}
use Rattle.dp_state.specs.Constants.{constant}
use Rattle.dp_state.specs.declared.moments.FatalKind.{FatalKind}
use Rattle.dp_state.specs.declared.moments.FatalKind.TheVariants.{NoConstant}
use Rattle.dp_state.specs.declared.state.State.{State}
use Rattle.dp_state.specs.Faults.{kind_of_value, kind_of_write}
use Rattle.dp_state.specs.Places.{keys_of_indices}
use Rattle.dp_tree.specs.declared.tree.Expression.{Expression, ind-Expression, map-Expression, roll-Expression}
use Rattle.dp_tree.specs.declared.tree.Expression.TheFolds.{fold-roll-Expression, fold-roll-Item, fold-roll-Link, fold-roll-Place}
use Rattle.dp_tree.specs.declared.tree.Expression.TheOpen.{Expression-F, Item-F, Link-F, Place-F}
use Rattle.dp_tree.specs.declared.tree.Item.{Item, map-Item, roll-Item}
use Rattle.dp_tree.specs.declared.tree.Link.{Link, map-Link, roll-Link}
use Rattle.dp_tree.specs.declared.tree.Operator.{Operator}
use Rattle.dp_tree.specs.declared.tree.Operator.TheVariants.{Or, And, Of}
use Rattle.dp_tree.specs.declared.tree.Place.{Place, map-Place, roll-Place}
use Rattle.dp_tree.specs.Purity as purity
use Rattle.dp_tree.specs.inner.Parts as inside
use Rattle.dp_actions.specs.Constants.{constant_run, read_constant}
use Rattle.dp_actions.specs.Expressions.{ExpressionRun, ItemRun, LinkRun, values_run, indices_run, links_run, items_run, operator_run, item_run, coalesced, choice, conditional, place_layer, item_layer, link_layer, expression_layer, expression_run, place_run, evaluation}
use Rattle.dp_actions.specs.Expressions.{item_run_of, link_run}
use Rattle.dp_actions.specs.Places.{PlaceRun, isset_run, variable}
use Rattle.dp_actions.specs.Run.{Run, Done, and_then, fatal}
use Rattle.dp_actions.specs.Setting.{Setting, Part}
use Rattle.dp_actions.specs.Values.{value_run, write_run, holds, is_missing}
use Rattle.dp_meaning.proofs.Each.{Each}

-- a run that gives something or is fatal at once, and leaves the state as it is
pub data IsPlain {A : Type 0} (s : State) (r : Run A) : Type 0 where
  Given : (a : A) → r ≡ Done a s → IsPlain s r
  Faulty : (kind : FatalKind) → r ≡ fatal kind s → IsPlain s r

abbrev pub PlainPart : {A : Type 0} → Part A → Type 0
PlainPart part = (setting : Setting) (s : State) → IsPlain s (part setting s)

plain-then : {A B : Type 0} (s : State) (r : Run A) (next : A → State → Run B) → IsPlain s r
    → ((a : A) → IsPlain s (next a s))
    → IsPlain s (and_then r next)
unfolding and_then
plain-then s r next (Given a e) k = subst (λ r. IsPlain s (and_then r next)) (sym e) (k a)
plain-then s r next (Faulty kind e) k = Faulty kind (ap (λ r. and_then r next) e)

plain-if : {A : Type 0} (b : Bool) (s : State) (x y : Run A) → IsPlain s x → IsPlain s y
    → IsPlain s (if b then x else y)
plain-if true s x y h k = h
plain-if false s x y h k = k

plain-value : (r : Result Data ValueError) (s : State) → IsPlain s (value_run r s)
plain-value (Ok v) s = Given _ refl
plain-value (Err e) s = Faulty (kind_of_value e) refl

plain-write : (r : Result Data WriteError) (s : State) → IsPlain s (write_run r s)
plain-write (Ok v) s = Given _ refl
plain-write (Err e) s = Faulty (kind_of_write e) refl

plain-constant : (o : Option Value) (s : State) → IsPlain s (read_constant o s)
plain-constant None s = Faulty NoConstant refl
plain-constant (Some v) s = Given v refl

-- ---- parts

abbrev PlainExpression : ExpressionRun → Type 0
PlainExpression e = PlainPart e.value × PlainPart e.found

abbrev PlainFrom : (Value → Part Value) → Type 0
PlainFrom f = (v : Value) → PlainPart (f v)

abbrev PlainPlace : PlaceRun → Type 0
PlainPlace place = PlainPart place.indices

plain-values : (es : List ExpressionRun) → Each PlainExpression es → PlainPart (values_run es)
plain-values [] each setting s = Given [] refl
plain-values (e ∷ es) each setting s =
    plain-then s _ _ (each.0.0 setting s) (λ v. plain-then s _ _ (plain-values es each.1 setting s)
    (λ values. Given (v ∷ values) refl))

plain-indices : (entry : Data → Data → Result Data ValueError) (es : List ExpressionRun) → Each PlainExpression es
    → PlainFrom (indices_run entry es)
plain-indices entry [] each v setting s = Given v refl
plain-indices entry (e ∷ es) each v setting s =
    plain-then s _ _ (each.0.0 setting s) (λ i. plain-then s _ _ (plain-value (entry (data_of v) (data_of i)) s)
    (λ w. plain-indices entry es each.1 w setting s))

plain-links : (links : List LinkRun) → Each PlainFrom links → PlainFrom (links_run links)
plain-links [] each v setting s = Given v refl
plain-links (link ∷ links) each v setting s =
    plain-then s _ _ (each.0 v setting s) (λ w. plain-links links each.1 w setting s)

plain-items : (items : List ItemRun) → Each PlainFrom items → PlainFrom (items_run items)
plain-items [] each v setting s = Given v refl
plain-items (item ∷ items) each v setting s =
    plain-then s _ _ (each.0 v setting s) (λ w. plain-items items each.1 w setting s)

plain-isset : (places : List PlaceRun) → Each PlainPlace places → PlainPart (isset_run places)
plain-isset [] each setting s = Given (value.Bool true) refl
plain-isset (place ∷ places) each setting s =
    plain-then s _ _ (each.0 setting s) (λ indices.
    plain-then s _ _ (plain-value (found_by (map data_of indices) (data_of (variable place.name s))) s) (λ v.
    plain-if (is_missing v) s (Done (value.Bool false) s) (isset_run places setting s) (Given (value.Bool false) refl)
    (plain-isset places each.1 setting s)))

plain-operator : (op : Operator) (right : ExpressionRun) → PlainExpression right → PlainFrom (operator_run op right)
plain-operator Or right keep v setting s =
    plain-if (holds v) s _ _ (Given (value.Bool true) refl) (plain-then s _ _ (keep.0 setting s)
    (λ w. Given (value.Bool (holds w)) refl))
plain-operator And right keep v setting s =
    plain-if (holds v) s _ _ (plain-then s _ _ (keep.0 setting s) (λ w. Given (value.Bool (holds w)) refl))
    (Given (value.Bool false) refl)
plain-operator (Of op) right keep v setting s =
    plain-then s _ _ (keep.0 setting s) (λ w. plain-value (binary_of op (data_of v) (data_of w)) s)

plain-item : (item : ExpressionRun) → PlainExpression item → PlainFrom (item_run None item)
plain-item item keep array setting s =
    plain-then s _ _ (keep.0 setting s) (λ v. plain-write (write_result [] true (data_of v) (data_of array)) s)

plain-keyed : (key item : ExpressionRun) → PlainExpression key → PlainExpression item
    → PlainFrom (item_run (Some key) item)
plain-keyed key item first keep array setting s =
    plain-then s _ _ (first.0 setting s) (λ k. plain-then s _ _ (keep.0 setting s) (λ v.
    plain-write (write_result (keys_of_indices (k ∷ [])) false (data_of v) (data_of array)) s))

-- ---- whole trees

pub both-true : (a b : Bool) → (a && b) ≡ true → (a ≡ true) × (b ≡ true)
both-true true true e = (refl, refl)
both-true true false e = absurd (cc)
both-true false b e = absurd (cc)

-- parts that are pure are plain
pub each-pure : {X Y : Type 0} (pure : X → Bool) (run : X → Y) (Q : Y → Type 0)
    (xs : List ((x : X) × (pure x ≡ true → Q (run x))))
    → purity.all_pure (map pure (map (λ e. e.0) xs)) ≡ true → Each Q (map run (map (λ e. e.0) xs))
each-pure pure run Q [] all = tt
each-pure pure run Q (x ∷ xs) all = let h = both-true (pure x.0) (purity.all_pure (map pure (map (λ e. e.0) xs))) all in
    (x.1 h.0, each-pure pure run Q xs h.1)

abbrev Good : Expression → Type 0
Good e = purity.is_pure e ≡ true → PlainExpression (expression_run e)

abbrev GoodItem : Item → Type 0
GoodItem item = inside.item_is_pure item ≡ true → PlainFrom (item_run_of item)

abbrev GoodLink : Link → Type 0
GoodLink link = inside.link_is_pure link ≡ true → PlainFrom (link_run link)

abbrev GoodPlace : Place → Type 0
GoodPlace place = inside.place_is_pure place ≡ true → PlainPlace (place_run place)

abbrev WithExpression : Type 0
WithExpression = (e : Expression) × Good e

abbrev WithItem : Type 0
WithItem = (e : Item) × GoodItem e

abbrev WithLink : Type 0
WithLink = (e : Link) × GoodLink e

abbrev WithPlace : Type 0
WithPlace = (e : Place) × GoodPlace e

abbrev WithGood : Type 0
WithGood = Expression-F WithExpression WithItem WithLink WithPlace

abbrev Whole : Type 0
Whole = Expression-F Expression Item Link Place

abbrev parts : WithGood → Whole
parts y =
    map-Expression WithExpression WithItem WithLink WithPlace Expression Item Link Place (λ e. e.0) (λ e. e.0)
    (λ e. e.0) (λ e. e.0) y

abbrev runs : Whole → Expression-F ExpressionRun ItemRun LinkRun PlaceRun
runs x =
    map-Expression Expression Item Link Place ExpressionRun ItemRun LinkRun PlaceRun expression_run item_run_of link_run
    place_run x

abbrev tests : Whole → Expression-F Bool Bool Bool Bool
tests x =
    map-Expression Expression Item Link Place Bool Bool Bool Bool purity.is_pure inside.item_is_pure inside.link_is_pure
    inside.place_is_pure x

plain-choice : (o : Option ExpressionRun) (v : Value) → ((e : ExpressionRun) → o ≡ Some e → PlainExpression e)
    → PlainPart (choice o v)
plain-choice None v keep setting s = Given v refl
plain-choice (Some e) v keep setting s = (keep e refl).0 setting s

plain-conditional : (test otherwise : ExpressionRun) (o : Option ExpressionRun) → PlainExpression test
    → PlainExpression otherwise
    → ((e : ExpressionRun) → o ≡ Some e → PlainExpression e) → PlainPart (conditional test o otherwise)
plain-conditional test otherwise o h k keep setting s =
    plain-then s _ _ (h.0 setting s) (λ v. plain-if (holds v) s _ _ (plain-choice o v keep setting s) (k.0 setting s))

plain-coalesced : (left right : ExpressionRun) → PlainExpression left → PlainExpression right
    → PlainPart (coalesced left right)
plain-coalesced left right h k setting s =
    plain-then s _ _ (h.1 setting s) (λ v. plain-if (is_missing v) s _ _ (k.0 setting s) (Given v refl))

plain-layer : (y : WithGood) → purity.expression_layer (tests (parts y)) ≡ true
    → PlainExpression (expression_layer (runs (parts y)))
plain-layer Expression-F.Null pure = (λ setting s. Given _ refl, λ setting s. Given _ refl)
plain-layer (Expression-F.Bool b) pure = (λ setting s. Given _ refl, λ setting s. Given _ refl)
plain-layer (Expression-F.Number m) pure = (λ setting s. Given _ refl, λ setting s. Given _ refl)
plain-layer (Expression-F.Text bytes) pure = (λ setting s. Given _ refl, λ setting s. Given _ refl)
plain-layer (Expression-F.Variable name) pure = (λ setting s. Given _ refl, λ setting s. Given _ refl)
plain-layer (Expression-F.Constant name) pure =
    let k : PlainPart (λ setting s. constant_run name s) = λ setting s. plain-constant (constant name s) s in (k, k)
plain-layer (Expression-F.Array items) pure =
    let k = plain-items _ (each-pure inside.item_is_pure item_run_of PlainFrom items pure) (value.Array empty) in (k, k)
plain-layer (Expression-F.Call name arguments) pure = absurd (cc)
plain-layer (Expression-F.Isset places) pure =
    let k = plain-isset _ (each-pure inside.place_is_pure place_run PlainPlace places pure) in (k, k)
plain-layer (Expression-F.Index base indices) pure =
    let h = both-true (purity.is_pure base.0) _ pure in
    let each = each-pure purity.is_pure expression_run PlainExpression indices h.1 in
    let b = base.1 h.0 in (
      λ setting s. plain-then s _ _ (b.0 setting s) (λ v. plain-indices indexed _ each v setting s),
      λ setting s. plain-then s _ _ (b.1 setting s) (λ v. plain-indices looked_up _ each v setting s),
    )
plain-layer (Expression-F.Unary op e) pure =
    let k : PlainPart (λ setting s. and_then ((expression_run e.0).value setting s)
    (λ v t. value_run (unary_of op (data_of v)) t)) =
    λ setting s. plain-then s _ _ ((e.1 pure).0 setting s) (λ v. plain-value (unary_of op (data_of v)) s) in (k, k)
plain-layer (Expression-F.Step op order place) pure = absurd (cc)
plain-layer (Expression-F.Chain first links) pure =
    let h = both-true (purity.is_pure first.0) _ pure in
    let k : PlainPart (λ setting s. and_then ((expression_run first.0).value setting s)
    (λ v t. links_run (map link_run (map
    (λ e. e.0) links)) v setting t)) =
    λ setting s. plain-then s _ _ ((first.1 h.0).0 setting s) (λ v. plain-links _
    (each-pure inside.link_is_pure link_run PlainFrom links h.1) v setting s) in (k, k)
plain-layer (Expression-F.Coalesce left right) pure =
    let h = both-true (purity.is_pure left.0) (purity.is_pure right.0) pure in
    let k = plain-coalesced (expression_run left.0) (expression_run right.0) (left.1 h.0) (right.1 h.1) in (k, k)
plain-layer (Expression-F.Conditional test None otherwise) pure =
    let h = both-true (purity.is_pure test.0) _ pure in
    let i = both-true true (purity.is_pure otherwise.0) h.1 in
    let k = plain-conditional (expression_run test.0) (expression_run otherwise.0) None (test.1 h.0) (otherwise.1 i.1)
    (λ e is. absurd (cc)) in (k, k)
plain-layer (Expression-F.Conditional test (Some middle) otherwise) pure =
    let h = both-true (purity.is_pure test.0) _ pure in
    let i = both-true (purity.is_pure middle.0) (purity.is_pure otherwise.0) h.1 in
    let k = plain-conditional (expression_run test.0) (expression_run otherwise.0) (Some (expression_run middle.0))
    (test.1 h.0) (otherwise.1 i.1)
    (λ e is. let same : expression_run middle.0 ≡ e = cc in subst PlainExpression same (middle.1 i.0)) in (k, k)
plain-layer (Expression-F.Include how e) pure = absurd (cc)
plain-layer (Expression-F.Assign place right) pure = absurd (cc)
plain-layer (Expression-F.Compound op place right) pure = absurd (cc)
plain-layer (Expression-F.CoalesceAssign place right) pure = absurd (cc)
plain-layer (Expression-F.Push place right) pure = absurd (cc)

abbrev parts-item : Item-F WithExpression WithItem WithLink WithPlace → Item-F Expression Item Link Place
parts-item y =
    map-Item WithExpression WithItem WithLink WithPlace Expression Item Link Place (λ e. e.0) (λ e. e.0) (λ e. e.0)
    (λ e. e.0) y

plain-item-layer : (key : Option WithExpression) (item : WithExpression)
    → (let y : Item-F WithExpression WithItem WithLink WithPlace = record { key = key; value = item } in
    purity.item_layer (map-Item Expression Item Link Place Bool Bool Bool Bool purity.is_pure inside.item_is_pure
    inside.link_is_pure
    inside.place_is_pure (parts-item y)) ≡ true
    → PlainFrom (item_layer (map-Item Expression Item Link Place ExpressionRun ItemRun LinkRun PlaceRun expression_run
    item_run_of link_run
    place_run (parts-item y))))
plain-item-layer None item pure =
    plain-item (expression_run item.0) (item.1 (both-true true (purity.is_pure item.0) pure).1)
plain-item-layer (Some key) item pure =
    let h = both-true (purity.is_pure key.0) (purity.is_pure item.0) pure in plain-keyed (expression_run key.0)
    (expression_run item.0)
    (key.1 h.0) (item.1 h.1)

step-expression : (x : Whole) (y : WithGood) → parts y ≡ x → Good (roll-Expression x)
unfolding expression_run item_run_of link_run place_run
step-expression x y is = subst (λ z. Good (roll-Expression z)) is (λ pure.
    subst PlainExpression (sym (fold-roll-Expression ExpressionRun ItemRun LinkRun PlaceRun expression_layer item_layer
    link_layer place_layer
    (parts y)))
    (plain-layer y (sym (fold-roll-Expression Bool Bool Bool Bool purity.expression_layer purity.item_layer
    purity.link_layer purity.place_layer
    (parts y)) ∙ pure)))

step-item : (x : Item-F Expression Item Link Place) (y : Item-F WithExpression WithItem WithLink WithPlace)
    → parts-item y ≡ x
    → GoodItem (roll-Item x)
unfolding expression_run item_run_of link_run place_run
step-item x y is = subst (λ z. GoodItem (roll-Item z)) is (λ pure.
    subst PlainFrom (sym (fold-roll-Item ExpressionRun ItemRun LinkRun PlaceRun expression_layer item_layer link_layer
    place_layer _))
    (plain-item-layer y.key y.value (sym
    (fold-roll-Item Bool Bool Bool Bool purity.expression_layer purity.item_layer purity.link_layer purity.place_layer
    _) ∙ pure)))

step-link : (x : Link-F Expression Item Link Place) (y : Link-F WithExpression WithItem WithLink WithPlace)
    → map-Link WithExpression WithItem WithLink WithPlace Expression Item Link Place (λ e. e.0) (λ e. e.0) (λ e. e.0)
    (λ e. e.0) y ≡ x
    → GoodLink (roll-Link x)
unfolding expression_run item_run_of link_run place_run
step-link x y is = subst (λ z. GoodLink (roll-Link z)) is (λ pure.
    subst PlainFrom (sym (fold-roll-Link ExpressionRun ItemRun LinkRun PlaceRun expression_layer item_layer link_layer
    place_layer _))
    (plain-operator y.operator (expression_run y.operand.0)
    (y.operand.1 (sym (fold-roll-Link Bool Bool Bool Bool purity.expression_layer purity.item_layer purity.link_layer
    purity.place_layer _) ∙ pure))))

step-place : (x : Place-F Expression Item Link Place) (y : Place-F WithExpression WithItem WithLink WithPlace)
    → map-Place WithExpression WithItem WithLink WithPlace Expression Item Link Place (λ e. e.0) (λ e. e.0) (λ e. e.0)
    (λ e. e.0) y ≡ x
    → GoodPlace (roll-Place x)
unfolding expression_run item_run_of link_run place_run
step-place x y is = subst (λ z. GoodPlace (roll-Place z)) is (λ pure.
    subst PlainPlace (sym (fold-roll-Place ExpressionRun ItemRun LinkRun PlaceRun expression_layer item_layer link_layer
    place_layer _))
    (plain-values _ (each-pure purity.is_pure expression_run PlainExpression y.indices
    (sym (fold-roll-Place Bool Bool Bool Bool purity.expression_layer purity.item_layer purity.link_layer
    purity.place_layer _) ∙ pure))))

pub plain-pure : (e : Expression) → purity.is_pure e ≡ true → PlainPart (evaluation e)
plain-pure e pure =
    (ind-Expression Good GoodItem GoodLink GoodPlace step-expression step-item step-link step-place e pure).0
