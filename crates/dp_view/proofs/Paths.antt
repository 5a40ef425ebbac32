-- What stands in a property is what is shown of a path that goes on.
use Rattle.std.proofs.Common.{◌≡◌, ℕ, zero, suc, ◌+◌, ◌-◌, ◌*◌, ◌<◌, ℤ, Bool, false, cond, List, [], ◌∷◌, ◌++◌, length, map, take, drop, Option, Some, None, slice_get, refl, sym, ap, subst, ◌∙◌, append_assoc, arith}
use Rattle.std.specs.Prelude.{Result, Ok, Err, ok_or, option_and_then, option_map}
use Rattle.std.specs.List.{AllByRecursion, IsDistinct, flat_map}
use Rattle.std.specs.Cmp.{IsEquivalence}
use Rattle.std.specs.Map.{keys_of, lookup}
use Rattle.std.specs.Option.{option_map_or}
use Rattle.std.specs.Str.{bytes_eq}
use Rattle.std.proofs.lemmas.List.{append-nil}
use Rattle.std.proofs.lemmas.Map.Keys.{IsDistinct-head, IsDistinct-tail}
use Rattle.std.proofs.lemmas.Option.{slice_get-map, slice_get_past, slice_get_within}
use Rattle.dp_packet.specs.declared.error_codes.ErrorCode.{ErrorCode}
use Rattle.dp_packet.specs.declared.error_codes.ErrorCode.TheVariants.{CannotGetProperty}
use Rattle.dp_packet.specs.declared.property.Property.{Property}
use Rattle.dp_packet.specs.declared.property.Shape.{Shape}
use Rattle.dp_packet.specs.declared.property.Shape.TheOpen.{Shape-F}
use Rattle.dp_packet.specs.declared.property.Shape.TheVariants as shape
use Rattle.dp_packet.specs.declared.property.Shape.TheViews.{out-Shape, out-roll-Shape, roll-Shape}
use Rattle.dp_state.specs.declared.moments.Path.{Path}
use Rattle.dp_state.specs.declared.state.State.{State}
use Rattle.dp_state.specs.declared.vars.Slot.{Slot}
use Rattle.dp_state.specs.Variables.{Variables, slot_of, value_held, value_in, value_through}
use Rattle.dp_value.specs.declared.key.Key.{Key}
use Rattle.dp_value.specs.declared.key.Key.TheVariants.{Text}
use Rattle.dp_value.specs.Data.{Data, Entries, null, boolean, integer, text, array, pairs_of}
use Rattle.dp_value.specs.Key.{key_eq}
use Rattle.dp_value.specs.Table.{find_value}
use Rattle.dp_value.specs.Value.{data_of}
use Rattle.dp_value.specs.declared.value.Value.{Value}
use Rattle.dp_value.proofs.KeyLemmas.{key_eq_equivalence}
use Rattle.dp_view.specs.declared.paging.Paging.{Paging}
use Rattle.dp_view.specs.Answers.{and_then}
use Rattle.dp_view.specs.Names.{entry_name, full_name, key_text, own_name, variable_name}
use Rattle.dp_view.specs.inner.Longer.{with_key}
use Rattle.dp_view.specs.Children.{AreOfVariables, HasPaths, below, deeper, entries_in, properties_in, with_keys}
use Rattle.dp_view.specs.Places.{entry_of, shown_variables, value_among, value_at, value_under}
use Rattle.dp_view.specs.Properties.{entry_property, nested, page_of, path_property, shape_of, variable_path, variable_shown, variable_value}
use Rattle.dp_view.specs.inner.Keyed.{IsKeyed, VariablesAreKeyed}
use Rattle.dp_grammar.proofs.Runs.{some_is}
use Rattle.dp_view.proofs.Written.{entry_full_name}

-- ---- what stands where in a list

all_at : {K X : Type 0} (P : K → Type 0) (es : List (K × X)) (k : ℕ) (e : K × X) → AllByRecursion P (map (λ p. p.0) es)
    → slice_get es k ≡ Some e → P e.0
all_at P [] k e all at = absurd cc
all_at {K} {X} P (x ∷ xs) zero e all at = subst (λ (y : K × X). P y.0) (some_is x e at) all.0
all_at P (x ∷ xs) (suc k) e all at = all_at P xs k e all.1 at

-- the value under a key of distinct ones
found_at : {K X : Type 0} (eq : K → K → Bool) (laws : IsEquivalence eq) (es : List (K × X)) (k : ℕ) (e : K × X)
    → IsDistinct eq (map (λ p. p.0) es)
    → slice_get es k ≡ Some e → lookup (eq e.0) es ≡ Some e.1
found_at eq laws [] k e is at = absurd cc
found_at {K} {X} eq laws (x ∷ xs) zero e is at =
    subst (λ (y : K × X). lookup (eq y.0) (x ∷ xs) ≡ Some y.1) (some_is x e at)
    (ap (λ b. cond b (Some x.1) (lookup (eq x.0) xs)) (laws.refl x.0))
found_at eq laws (x ∷ xs) (suc k) e is at =
    let apart : eq e.0 x.0 ≡ false = laws.symm e.0 x.0
    ∙ all_at (λ y. eq x.0 y ≡ false) xs k e (IsDistinct-head eq x.0 (map (λ p. p.0) xs) is) at in
    ap (λ b. cond b (Some x.1) (lookup (eq e.0) xs)) apart
    ∙ found_at eq laws xs k e (IsDistinct-tail eq x.0 (map (λ p. p.0) xs) is) at

value_found : (is_key : Key → Bool) (es : List (Key × Data)) → find_value is_key es ≡ lookup is_key es
value_found is_key [] = refl
value_found is_key (e ∷ es) = ap (λ o. cond (is_key e.0) (Some e.1) o) (value_found is_key es)

taken_at : {A : Type 0} (n : ℕ) (xs : List A) (k : ℕ) (x : A) → slice_get (take n xs) k ≡ Some x
    → (k < n) × (slice_get xs k ≡ Some x)
taken_at zero xs k x e = absurd cc
taken_at (suc n) [] k x e = absurd cc
taken_at (suc n) (y ∷ xs) zero x e = (omega arith, e)
taken_at (suc n) (y ∷ xs) (suc k) x e = let more = taken_at n xs k x e in (omega (arith, more.0), more.1)

dropped_at : {A : Type 0} (n : ℕ) (xs : List A) (k : ℕ) → slice_get (drop n xs) k ≡ slice_get xs (n + k)
dropped_at zero xs k = let e : 0 + k ≡ k = omega arith in ap (slice_get xs) (sym e)
dropped_at (suc n) [] k = sym (slice_get_past [] (suc n + k) (omega arith))
dropped_at (suc n) (x ∷ xs) k =
    let e : suc n + k ≡ suc (n + k) = omega arith in dropped_at n xs k ∙ ap (slice_get (x ∷ xs)) (sym e)

-- what stands on a page
page_at : (page size : ℕ) (es : List (Key × Data)) (k : ℕ) (e : Key × Data)
    → slice_get (page_of page size es) k ≡ Some e → (k < size) × (slice_get es (page * size + k) ≡ Some e)
page_at page size es k e h =
    let t = taken_at size (drop (page * size) es) k e h in
    (t.0, sym (dropped_at (page * size) es k) ∙ t.1)

mapped_at : {A B : Type 0} (f : A → B) (o : Option A) (y : B) → option_map f o ≡ Some y
    → (x : A) × (o ≡ Some x) × (y ≡ f x)
mapped_at f None y e = absurd cc
mapped_at f (Some x) y e = (x, refl, sym (some_is (f x) y e))

-- ---- how much is shown

module _ (p q : Paging) (same_bytes : q.bytes ≡ p.bytes) (same_children : q.children ≡ p.children) where
  shape_same : (at : ℕ) (nest : List (Key × Data) → List Property) (d : Data)
      → shape_of q at nest d ≡ shape_of p at nest d
  shape_same at nest null = refl
  shape_same at nest (boolean b) = refl
  shape_same at nest (integer n) = refl
  shape_same at nest (text bytes) = ap (λ most. shape.Text (length bytes) (take most bytes)) same_bytes
  shape_same at nest (array es largest) =
      ap (λ size. shape.Array (length (pairs_of es)) at size (nest (page_of at size (pairs_of es)))) same_children

  shape_both : (levels : ℕ)
      → ((full : Option (List ℕ)) (es : List (Key × Data)) → nested q levels full es ≡ nested p levels full es)
      → (full : Option (List ℕ)) (d : Data)
      → shape_of q 0 (nested q levels full) d ≡ shape_of p 0 (nested p levels full) d
  shape_both levels same full d = shape_same 0 (nested q levels full) d ∙ λ i. shape_of p 0 (λ es. same full es i) d

  -- what is nested does not look at the page and the depth that are asked for
  nested_same : (levels : ℕ) (full : Option (List ℕ)) (es : List (Key × Data))
      → nested q levels full es ≡ nested p levels full es
  nested_same zero full es = refl
  nested_same (suc levels) full es = λ i. map (λ e. record {
    name = Some (key_text e.0);
    fullname = entry_name full e.0;
    shape = shape_both levels (nested_same levels) (entry_name full e.0) e.1 i;
  }) es

-- ---- names

last_of : (keys : List Key) (key : Key) → slice_get (keys ++ key ∷ []) (length (keys ++ key ∷ []) - 1) ≡ Some key
last_of [] key = refl
last_of (k ∷ []) key = refl
last_of (k ∷ l ∷ keys) key =
    let e : length (k ∷ l ∷ (keys ++ key ∷ [])) - 1 ≡ suc (length (l ∷ (keys ++ key ∷ [])) - 1) = omega arith in
    ap (slice_get (k ∷ l ∷ (keys ++ key ∷ []))) e ∙ last_of (l ∷ keys) key

-- ---- one level down

-- what is shown of an entry is what is shown of its path
entry_is : (id : ℕ) (path : Path) (p : Paging) (levels : ℕ) (e : Key × Data) → p.depth ≡ suc levels
    → entry_property p (nested p levels) (Some (full_name id path)) e ≡ path_property id (with_keys path (e.0 ∷ []))
    (deeper 1 p) e.1
entry_is id path p levels e deep =
    let further : Path = with_key path e.0 in
    let less : levels ≡ (deeper 1 p).depth = omega (arith, deep) in
    let own : key_text e.0 ≡ own_name id further =
    ap (λ k. option_map_or key_text k (variable_name id path.name))
    (sym (last_of path.keys e.0)) in
    let full : entry_name (Some (full_name id path)) e.0 ≡ Some (full_name id further) =
    entry_full_name id path e.0 in
    let shapes : shape_of p 0 (nested p levels (entry_name (Some (full_name id path)) e.0)) e.1
    ≡ shape_of (deeper 1 p) 0 (nested (deeper 1 p) (deeper 1 p).depth (Some (full_name id further))) e.1 =
    ap (λ n. shape_of p 0 (nested p levels n) e.1) full
    ∙ sym (shape_both p (deeper 1 p) refl refl levels (nested_same p (deeper 1 p) refl refl levels)
    (Some (full_name id further)) e.1)
    ∙ ap (λ n. shape_of (deeper 1 p) 0 (nested (deeper 1 p) n (Some (full_name id further))) e.1) less in
    λ i. record { name = Some (own i); fullname = full i; shape = shapes i }

-- a property in one of a path
record IsBelow (id : ℕ) (path : Path) (p : Paging) (d : Data) (q : Property) : Type 0 where
  key : Key
  value : Data
  there : entry_of key d ≡ Some value
  keyed : IsKeyed p.children 0 (p.depth - 1) value
  same : q ≡ path_property id (with_keys path (key ∷ [])) (deeper 1 p) value

in_array : (es : Entries) (largest : Option ℤ) (id : ℕ) (path : Path) (p : Paging) (levels at : ℕ) (q : Property)
    → p.depth ≡ levels → IsKeyed p.children p.page levels (array es largest)
    → slice_get (nested p levels (Some (full_name id path)) (page_of p.page p.children (pairs_of es))) at ≡ Some q
    → IsBelow id path p (array es largest) q
in_array es largest id path p zero at q deep keyed h = absurd cc
in_array es largest id path p (suc levels) at q deep keyed h =
    let page : List (Key × Data) = page_of p.page p.children (pairs_of es) in
    let f : Key × Data → Property = entry_property p (nested p levels) (Some (full_name id path)) in
    let m = mapped_at f (slice_get page at) q (sym (slice_get-map f page at) ∙ h) in
    let e : Key × Data = m.0 in
    let here = page_at p.page p.children (pairs_of es) at e m.1 in
    let less : levels ≡ p.depth - 1 = omega (arith, deep) in
    record {
      key = e.0;
      value = e.1;
      there =
          value_found (key_eq e.0) (pairs_of es)
          ∙ found_at key_eq key_eq_equivalence (pairs_of es) (p.page * p.children + at) e keyed.0 here.1;
      keyed =
          subst (λ n. IsKeyed p.children 0 n e.1) less (keyed.1 (p.page * p.children + at) e (omega arith)
          (omega (arith, here.0)) here.1);
      same = m.2 ∙ entry_is id path p levels e deep;
    }

-- the layer of a shape that was made of it
opened : (s : Shape) (layer : Shape-F Shape Property) → roll-Shape layer ≡ s → out-Shape s ≡ layer
opened s layer rolls = ap out-Shape (sym rolls) ∙ out-roll-Shape layer

in_none : (s : Shape) (layer : Shape-F Shape Property) (at : ℕ) (q : Property) → roll-Shape layer ≡ s
    → entries_in layer ≡ [] → slice_get (entries_in (out-Shape s)) at ≡ Some q → ⊥
in_none s layer at q rolls none h =
    let nothing : slice_get (entries_in (out-Shape s)) at ≡ None =
    ap (λ (l : List Property). slice_get l at) (ap entries_in (opened s layer rolls) ∙ none)
    ∙ slice_get_past [] at (omega arith) in
    absurd cc

one_below : (id : ℕ) (path : Path) (p : Paging) (d : Data) (at : ℕ) (q : Property) → IsKeyed p.children p.page p.depth d
    → slice_get (properties_in (path_property id path p d)) at ≡ Some q → IsBelow id path p d q
one_below id path p null at q keyed h = absurd (in_none shape.Null Shape-F.Null at q shape.rolls-Null refl h)
one_below id path p (boolean b) at q keyed h =
    absurd (in_none (shape.Bool b) (Shape-F.Bool b) at q (shape.rolls-Bool b) refl h)
one_below id path p (integer n) at q keyed h =
    absurd (in_none (shape.Int n) (Shape-F.Int n) at q (shape.rolls-Int n) refl h)
one_below id path p (text bytes) at q keyed h =
    let front : List ℕ = take p.bytes bytes in
    absurd (in_none (shape.Text (length bytes) front) (Shape-F.Text (length bytes) front) at q
    (shape.rolls-Text (length bytes) front) refl h)
one_below id path p (array es largest) at q keyed h =
    let count = length (pairs_of es) in
    let entries : List Property =
    nested p p.depth (Some (full_name id path)) (page_of p.page p.children (pairs_of es)) in
    let layer : Shape-F Shape Property = Shape-F.Array count p.page p.children entries in
    in_array es largest id path p p.depth at q refl keyed
    (ap (λ (x : Shape-F Shape Property). slice_get (entries_in x) at)
    (sym (opened (shape.Array count p.page p.children entries) layer
    (shape.rolls-Array count p.page p.children entries))) ∙ h)

-- ---- any number of levels down

under-append : (keys more : List Key) (d : Data)
    → value_under (keys ++ more) d ≡ option_and_then (value_under more) (value_under keys d)
under-append [] more d = refl
under-append (k ∷ keys) more d = by (entry_of k d) (under-append keys more) where
  by : (o : Option Data)
      → ((e : Data) → value_under (keys ++ more) e ≡ option_and_then (value_under more) (value_under keys e))
      → option_and_then (value_under (keys ++ more)) o ≡ option_and_then (value_under more)
      (option_and_then (value_under keys) o)
  by None rest = refl
  by (Some e) rest = rest e

then_some : {A B : Type 0} (f : A → Option B) (o : Option A) (y : B) → option_and_then f o ≡ Some y
    → (x : A) × (o ≡ Some x) × (f x ≡ Some y)
then_some f None y e = absurd cc
then_some f (Some x) y e = (x, refl, e)

deeper-deeper : (n : ℕ) (p : Paging) → deeper n (deeper 1 p) ≡ deeper (suc n) p
deeper-deeper zero p = refl
deeper-deeper (suc n) p =
    let less : (p.depth - 1) - suc n ≡ p.depth - suc (suc n) = omega arith in
    ap (λ k. record p { depth = k; page = 0 }) less

record IsFurther (id : ℕ) (path : Path) (p : Paging) (levels : ℕ) (d : Data) (q : Property) : Type 0 where
  keys : List Key
  as_many : length keys ≡ levels
  value : Data
  there : value_under keys d ≡ Some value
  same : q ≡ path_property id (with_keys path keys) (deeper levels p) value

further : (places : List ℕ) (id : ℕ) (path : Path) (p : Paging) (d : Data) (q : Property)
    → IsKeyed p.children p.page p.depth d → below places (path_property id path p d) ≡ Some q
    → IsFurther id path p (length places) d q
further [] id path p d q keyed h = record {
  keys = [];
  as_many = refl;
  value = d;
  there = refl;
  same =
      sym (some_is (path_property id path p d) q h)
      ∙ ap (λ ks. path_property id (record path { keys = ks }) p d) (sym (append-nil path.keys));
}
further (at ∷ places) id path p d q keyed h =
    let first = then_some (below places) (slice_get (properties_in (path_property id path p d)) at) q h in
    let one = one_below id path p d at first.0 keyed first.1 in
    let next : below places (path_property id (with_keys path (one.key ∷ [])) (deeper 1 p) one.value) ≡ Some q =
    ap (below places) (sym one.same) ∙ first.2 in
    let more = further places id (with_keys path (one.key ∷ [])) (deeper 1 p) one.value q one.keyed next in
    record {
      keys = one.key ∷ more.keys;
      as_many = ap suc more.as_many;
      value = more.value;
      there = ap (option_and_then (value_under more.keys)) one.there ∙ more.there;
      same =
          more.same ∙ λ i. path_property id (record path { keys = append_assoc path.keys (one.key ∷ []) more.keys i })
          (deeper-deeper (length places) p i) more.value;
    }

-- ---- in a state

ok_some : (o : Option Data) (d : Data) → ok_or {E = ErrorCode} o CannotGetProperty ≡ Ok d → o ≡ Some d
ok_some None d e = absurd cc
ok_some (Some x) d e = cc

module _ (s : State) (level id : ℕ) (path : Path) (keys : List Key) (d e : Data)
    (under : value_under keys d ≡ Some e) where
  among_more : (variables : Variables) → value_among s.globals path variables ≡ Some d
      → value_among s.globals (with_keys path keys) variables ≡ Some e
  among_more variables h = by (value_in s.globals variables path.name) h where
    by : (o : Option Value) → option_and_then (λ v. value_under path.keys (data_of v)) o ≡ Some d
        → option_and_then (λ v. value_under (path.keys ++ keys) (data_of v)) o ≡ Some e
    by None h = absurd cc
    by (Some v) h = under-append path.keys keys (data_of v) ∙ ap (option_and_then (value_under keys)) h ∙ under

  value_at_more : value_at s level id path ≡ Ok d → value_at s level id (with_keys path keys) ≡ Ok e
  value_at_more h = by (shown_variables s level id) h where
    by : (r : Result Variables ErrorCode)
        → and_then (λ vs. ok_or (value_among s.globals path vs) CannotGetProperty) r ≡ Ok d
        → and_then (λ vs. ok_or (value_among s.globals (with_keys path keys) vs) CannotGetProperty) r ≡ Ok e
    by (Err code) h = absurd cc
    by (Ok vs) h = ap (λ o. ok_or o CannotGetProperty) (among_more vs (ok_some (value_among s.globals path vs) d h))

pub has_paths : (s : State) (level id : ℕ) (path : Path) (p : Paging) (d : Data) → value_at s level id path ≡ Ok d
    → IsKeyed p.children p.page p.depth d
    → HasPaths s level id path p (path_property id path p d)
has_paths s level id path p d at keyed = λ places q h.
    let f = further places id path p d q keyed h in
    record {
      keys = f.keys;
      as_many = f.as_many;
      shown =
          ap (and_then (λ x. Ok (path_property id (with_keys path f.keys) (deeper (length places) p) x)))
          (value_at_more s level id path f.keys d f.value f.there at)
          ∙ ap (λ x. Ok x) (sym f.same);
    }

-- ---- in a context

names_eq : IsEquivalence bytes_eq
names_eq = record {
  refl = λ a. key_eq_equivalence.refl (Text a);
  symm = λ a b. key_eq_equivalence.symm (Text a) (Text b);
  congr = λ a b c h. key_eq_equivalence.congr (Text a) (Text b) (Text c) h;
}

-- a property that is shown of variables is that of one with a value
record IsShown (id : ℕ) (p : Paging) (globals variables : Variables) (q : Property) : Type 0 where
  place : ℕ
  variable : List ℕ × Slot
  value : Value
  there : slice_get variables place ≡ Some variable
  has : variable_value globals variable ≡ Some value
  same : q ≡ path_property id (variable_path variable.0) p (data_of value)

shown_at : (id : ℕ) (p : Paging) (globals variables : Variables) (at : ℕ) (q : Property)
    → slice_get (flat_map (variable_shown id p globals) variables) at ≡ Some q → IsShown id p globals variables q
shown_at id p globals [] at q h =
    let none : slice_get {X = Property} [] at ≡ None = slice_get_past [] at (omega arith) in absurd cc
shown_at id p globals (v ∷ vs) at q h = by (variable_value globals v) at refl h (shown_at id p globals vs) where
  later : IsShown id p globals vs q → IsShown id p globals (v ∷ vs) q
  later l =
      record {
        place = suc l.place;
        variable = l.variable;
        value = l.value;
        there = l.there;
        has = l.has;
        same = l.same;
      }

  by : (o : Option Value) (n : ℕ) → variable_value globals v ≡ o
      → slice_get (option_map_or (λ value. path_property id (variable_path v.0) p (data_of value) ∷ []) o []
      ++ flat_map (variable_shown id p globals) vs) n ≡ Some q
      → ((m : ℕ) (r : Property) → slice_get (flat_map (variable_shown id p globals) vs) m ≡ Some r
      → IsShown id p globals vs r) → IsShown id p globals (v ∷ vs) q
  by None n is g more = later (more n q g)
  by (Some value) zero is g more =
      record {
        place = 0;
        variable = v;
        value = value;
        there = refl;
        has = is;
        same = sym
            (some_is (path_property id (variable_path v.0) p (data_of value)) q g);
      }
  by (Some value) (suc n) is g more = later (more n q g)

pub of_variables : (s : State) (level id : ℕ) (p : Paging) (variables : Variables)
    → shown_variables s level id ≡ Ok variables → IsDistinct bytes_eq (keys_of variables)
    → VariablesAreKeyed p s.globals variables (length variables)
    → AreOfVariables s level id p (flat_map (variable_shown id p s.globals) variables)
of_variables s level id p variables shown distinct keyed = λ at q h.
    let f = shown_at id p s.globals variables at q h in
    let path : Path = variable_path f.variable.0 in
    let slot : slot_of variables f.variable.0 ≡ Some f.variable.1 = found_at bytes_eq names_eq variables f.place
    f.variable distinct f.there in
    let value : value_in s.globals variables f.variable.0 ≡ Some f.value = ap
    (λ o. value_through o (value_held (slot_of s.globals f.variable.0))) slot ∙ f.has in
    let there : value_at s level id path ≡ Ok (data_of f.value) =
    ap (and_then (λ vs. ok_or (value_among s.globals path vs) CannotGetProperty)) shown
    ∙ ap (λ o. ok_or (option_and_then (λ v. value_under [] (data_of v)) o) CannotGetProperty) value in
    let here : IsKeyed p.children p.page p.depth (data_of f.value) =
    keyed f.place (slice_get_within variables f.place f.variable f.there) f.variable f.value f.there f.has in
    record {
      name = f.variable.0;
      paths =
          subst (HasPaths s level id path p) (sym f.same) (has_paths s level id path p (data_of f.value) there here);
    }
