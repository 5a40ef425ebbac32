-- What an exchange and a write do to pairs and their weight, and what a limit leaves beside a weight.
use Rattle.std.proofs.Common.{◌≡◌, ℕ, ℤ, ◌+◌, ◌≤◌, ◌<◌, ◌==◌, Bool, true, false, cond, if◌then◌else◌, nat_le, min, zero-add, List, [], ◌∷◌, Option, Some, None, Ok, Err, Result, is_ok, IsOk, OnOk, OnErr, length, inl, inr, refl, ap, sym, ◌∙◌, subst, arith, ◌⊎◌}
use Rattle.std.proofs.lemmas.Bool.{false≢true}
use Rattle.std.proofs.lemmas.Bool.Decides.{nat_tests}
use Rattle.std.proofs.lemmas.Int.{ints, int_max_is}
use Rattle.std.proofs.lemmas.List.Elements.{recursion_from_All}
use Rattle.std.proofs.lemmas.Option.{same_Some}
use Rattle.std.specs.Int.{int_max}
use Rattle.std.specs.List.{AllByRecursion}
use Rattle.dp_value.specs.declared.errors.WriteError.{WriteError}
use Rattle.dp_value.specs.declared.errors.WriteError.TheVariants.{TooHeavy}
use Rattle.dp_value.specs.declared.key.Key.{Key}
use Rattle.dp_value.specs.declared.key.Key.TheVariants.{Int, Text}
use Rattle.dp_value.specs.declared.value.Value.{Value}
use Rattle.dp_value.specs.Value.{data_of}
use Rattle.dp_value.specs.inner.Codes.{table_from-data_of_table}
use Rattle.dp_value.specs.Key.{key_eq}
use Rattle.dp_value.specs.Data.{Data, Table, null, weight_of, pairs_weight, data_of_table}
use Rattle.dp_value.specs.Table.{find_value, keys_of, put, raised, swapped, table_set, table_exchange, value_at, weight_limit, IsTable, IsUpTo}
use Rattle.dp_value.specs.Entry.{entry_at, holder_of, then_data, then_table, within, light, write_result, written}
use Rattle.dp_value.specs.inner.Writes.{cause_of, written_in}
use Rattle.dp_value.proofs.KeyLemmas.{key_eq-Decides}
use Rattle.dp_value.proofs.PairLemmas.{by_test, has}

-- ---- a key that is there
pub put-present : (key : Key) (d e : Data) (ps : List (Key × Data)) → find_value (key_eq key) ps ≡ Some e
    → put ps key d ≡ swapped ps key d
put-present key d e =
    by_test (has key) _ (λ found. cc) (λ p ps h rest found. rw h)
    (λ p ps h rest found. rw h (ap (λ qs. p ∷ qs) (rest (rw h at found))))

-- an exchange with the value that is there changes nothing
swapped-same : (key : Key) (d : Data) (ps : List (Key × Data)) → find_value (key_eq key) ps ≡ Some d
    → swapped ps key d ≡ ps
swapped-same key d =
    by_test (has key) _ (λ found. refl)
    (λ p ps h rest found. let at : Some p.1 ≡ Some d = rw h at found in
    rw h (ap (λ (x : Data). let q : Key × Data = (p.0, x) in q ∷ ps) (sym (same_Some p.1 d at))))
    (λ p ps h rest found. rw h (ap (λ qs. p ∷ qs) (rest (rw h at found))))

-- an exchange under a key that is not there changes nothing
swapped-none : (key : Key) (d : Data) (ps : List (Key × Data)) → find_value (key_eq key) ps ≡ None
    → swapped ps key d ≡ ps
swapped-none key d =
    by_test (has key) _ (λ lacks. refl)
    (λ p ps h rest lacks. let at : Some p.1 ≡ None = rw h at lacks in cc)
    (λ p ps h rest lacks. rw h (ap (λ qs. p ∷ qs) (rest (rw h at lacks))))

pub exchange-none : (t : Table) (key : Key) (d : Data) → value_at t key ≡ None → table_exchange t key d ≡ t
exchange-none t key d lacks =
    let same = swapped-none key d t.pairs lacks in λ i. record { pairs = same i; largest = t.largest }

pub exchange-same : (t : Table) (key : Key) (d : Data) → value_at t key ≡ Some d → table_exchange t key d ≡ t
exchange-same t key d found =
    let same = swapped-same key d t.pairs found in λ i. record { pairs = same i; largest = t.largest }

-- of two exchanges the second counts
pub swapped-swapped : (key : Key) (d e : Data) (ps : List (Key × Data))
    → swapped (swapped ps key d) key e ≡ swapped ps key e
swapped-swapped key d e =
    by_test (has key) _ refl (λ p ps h rest. rw (h, h) refl) (λ p ps h rest. rw (h, h) (ap (λ qs. p ∷ qs) rest))

pub exchange-exchange : (t : Table) (key : Key) (d e : Data)
    → table_exchange (table_exchange t key d) key e ≡ table_exchange t key e
exchange-exchange t key d e =
    let same = swapped-swapped key d e t.pairs in λ i. record { pairs = same i; largest = t.largest }

-- ---- weights
pub weight-swapped_null : (key : Key) (ps : List (Key × Data)) → pairs_weight (swapped ps key null) ≤ pairs_weight ps
weight-swapped_null key =
    by_test (has key) _ (omega arith) (λ p ps h rest. rw h (omega arith)) (λ p ps h rest. rw h (omega (arith, rest)))

-- a value under a key weighs beside all else
pub weight-put : (key : Key) (d : Data) (ps : List (Key × Data))
    → pairs_weight (put ps key d) ≡ pairs_weight (put ps key null) + weight_of d
weight-put key d =
    by_test (has key) _ (omega arith) (λ p ps h rest. rw h (omega arith)) (λ p ps h rest. rw h (omega (arith, rest)))

-- ---- the largest integer key
raised-up_to : (largest : Option ℤ) (key : Key) → IsUpTo largest key → raised largest key ≡ largest
raised-up_to largest (Text bytes) h = refl
raised-up_to None (Int n) h = absurd h
raised-up_to (Some m) (Int n) h = let top : int_max m n ≡ m = omega (arith, ints, int_max_is m n) in ap Some top

up_to-present : (largest : Option ℤ) (key : Key) (d : Data) (ps : List (Key × Data)) →
    find_value (key_eq key) ps ≡ Some d → AllByRecursion (IsUpTo largest) (keys_of ps) → IsUpTo largest key
up_to-present largest key d =
    by_test (has key) _ (λ found all. cc)
    (λ p ps h rest found all. subst (λ (k : Key). IsUpTo largest k) (sym ((key_eq-Decides key p.0).0 h)) all.0)
    (λ p ps h rest found all. rest (rw h at found) all.1)

-- a write under a key that is there is an exchange
pub set-present : (t : Table) (key : Key) (d e : Data) → IsTable t → value_at t key ≡ Some e
    → table_set t key d ≡ table_exchange t key d
set-present t key d e is found =
    let pairs = put-present key d e t.pairs found in
    let largest = raised-up_to t.largest key (up_to-present t.largest key e t.pairs found
    (recursion_from_All (IsUpTo t.largest) (keys_of t.pairs) is.up_to)) in
    λ i. record { pairs = pairs i; largest = largest i }

-- ---- limits
then_cond : (b : Bool) (d : Data) (f : Data → Data)
    → cond b (Ok (f d)) (Err TooHeavy) ≡ then_data (cond b (Ok d) (Err TooHeavy)) f
then_cond true d f = refl
then_cond false d f = refl

-- a limit on an array is a limit on the value that is written, beside all else in the array
pub within_set : (beside : ℕ) (t : Table) (key : Key) (r : Result Data WriteError) →
    within beside (then_data r (λ d. data_of_table (table_set t key d)))
    ≡ then_data (within (beside + pairs_weight (put t.pairs key null)) r) (λ d. data_of_table (table_set t key d))
within_set beside t key (Err e) = refl
within_set beside t key (Ok d) =
    let same : beside + pairs_weight (put t.pairs key d) ≡ (beside + pairs_weight (put t.pairs key null)) + weight_of d
    = omega (arith, weight-put key d t.pairs) in
    ap (λ (n : ℕ). cond (nat_le n weight_limit) (Ok (data_of_table (table_set t key d))) (Err TooHeavy)) same
    ∙ then_cond (nat_le ((beside + pairs_weight (put t.pairs key null)) + weight_of d) weight_limit) d
    (λ x. data_of_table (table_set t key x))

-- what weighs beside may be counted up to a bound that is past the limit
pub within_min : (beside : ℕ) (r : Result Data WriteError)
    → within (min beside 18446744073709551615) r ≡ within beside r
within_min beside (Err e) = refl
within_min beside (Ok d) =
    let same : nat_le (min beside 18446744073709551615 + weight_of d) weight_limit ≡ nat_le
    (beside + weight_of d) weight_limit = grind (arith, nat_tests) in
    ap (λ (b : Bool). cond b (Ok d) (Err TooHeavy)) same

pub within_nothing : (r : Result Data WriteError) → within 0 r ≡ light r
within_nothing (Err e) = refl
within_nothing (Ok d) = ap (λ (n : ℕ). cond (nat_le n weight_limit) (Ok d) (Err TooHeavy)) (zero-add (weight_of d))

-- ---- values that are light
pub light-true : (b : Bool) (d : Data) → IsOk (cond b (Ok d) (Err TooHeavy)) → b ≡ true
light-true true d h = refl
light-true false d h = absurd (false≢true h)

pub light_enough : (n : ℕ) (d : Data) → IsOk (cond (nat_le n weight_limit) (Ok d) (Err TooHeavy)) → n ≤ weight_limit
light_enough n d h =
    let test : nat_le n weight_limit ≡ true = light-true (nat_le n weight_limit) d h in grind (arith, nat_tests)

light_is-by : (b : Bool) (d : Data) → IsOk (cond b (Ok d) (Err TooHeavy)) → cond b (Ok d) (Err TooHeavy) ≡ Ok d
light_is-by true d h = refl
light_is-by false d h = absurd (false≢true h)

-- what is not refused for its weight is as it is
pub light_is : (d : Data) → IsOk (light (Ok d)) → light (Ok d) ≡ Ok d
light_is d h = light_is-by (nat_le (weight_of d) weight_limit) d h

light_was-by : (b : Bool) (d e : Data) → cond b (Ok d) (Err TooHeavy) ≡ Ok e → d ≡ e
light_was-by true d e h = cc
light_was-by false d e h = let H : Result Data WriteError = Err TooHeavy in cc

pub light_was : (r : Result Data WriteError) (e : Data) → light r ≡ Ok e → r ≡ Ok e
light_was (Ok d) e h = ap Ok (light_was-by (nat_le (weight_of d) weight_limit) d e h)
light_was (Err why) e h = cc

-- ---- what is written
pub holder_of-table : (t : Table) → holder_of (data_of_table t) ≡ Ok t
holder_of-table t = ap Ok (table_from-data_of_table t)

-- a write that pushes, or has keys
abbrev pub Enters : Bool → List (Option Key) → Bool → Type 0
Enters empty keys push = (empty ≡ (length keys == 0)) × (((empty ≡ true) × (push ≡ true)) ⊎ (empty ≡ false))

-- goes into the array that the value is or becomes
pub written-holder : (empty : Bool) (keys : List (Option Key)) (push : Bool) (new d : Data) → Enters empty keys push →
    written keys push new d ≡ then_table (holder_of d) (written_in keys push new)
written-holder empty [] true new d enters = refl
written-holder empty [] false new d enters =
    let nothing : empty ≡ true = enters.0 in
    elim enters.1 [
      | inl pushes ↦ let no : false ≡ true = pushes.1 in cc
      | inr some ↦ cc
    ]
written-holder empty (key ∷ keys) push new d enters = refl

pub written-entered : (empty : Bool) (keys : List (Option Key)) (push : Bool) (new d : Data) (t : Table)
    → Enters empty keys push → holder_of d ≡ Ok t →
    written keys push new d ≡ written_in keys push new t
written-entered empty keys push new d t enters is =
    written-holder empty keys push new d enters
    ∙ ap (λ (r : Result Table WriteError). then_table r (written_in keys push new)) is

pub written-refused : (empty : Bool) (keys : List (Option Key)) (push : Bool) (new d : Data) (e : WriteError)
    → Enters empty keys push → holder_of d ≡ Err e →
    written keys push new d ≡ Err e
written-refused empty keys push new d e enters is =
    written-holder empty keys push new d enters
    ∙ ap (λ (r : Result Table WriteError). then_table r (written_in keys push new)) is

-- ---- why a write is refused
cause_of-then : (r : Result Data WriteError) (f : Data → Data) → cause_of (then_data r f) ≡ cause_of r
cause_of-then (Ok d) f = refl
cause_of-then (Err e) f = refl

-- what weighs beside the value under a first key
pub record IsBehind (beside inner : ℕ) (keys : List (Option Key)) (key : Key) (rest : List (Option Key)) (t : Table)
    (child : Data) : Type 0 where
  pub room : inner ≡ min (beside + pairs_weight (put t.pairs key null)) 18446744073709551615
  pub first : keys ≡ Some key ∷ rest
  pub entry : entry_at t key ≡ child

-- a write is refused as that of the value under the first key
pub cause-behind : (beside inner : ℕ) (keys : List (Option Key)) (key : Key) (rest : List (Option Key)) (push : Bool)
    (new : Data) (t : Table) (child : Data) → IsBehind beside inner keys key rest t child
    → cause_of (within inner (written rest push new child)) ≡ cause_of (within beside (written_in keys push new t))
cause-behind beside inner keys key rest push new t child is =
    let set : Data → Data = λ d. data_of_table (table_set t key d) in
    let asked : within beside (written_in keys push new t)
    ≡ then_data (within inner (written rest push new child)) set =
    ap (λ (ks : List (Option Key)). within beside (written_in ks push new t)) is.first
    ∙ within_set beside t key (written rest push new (entry_at t key))
    ∙ ap (λ (r : Result Data WriteError). then_data r set)
    (sym (within_min (beside + pairs_weight (put t.pairs key null)) (written rest push new (entry_at t key)))
    ∙ ap (λ (n : ℕ). within n (written rest push new (entry_at t key))) (sym is.room)
    ∙ ap (λ (d : Data). within inner (written rest push new d)) is.entry) in
    sym (ap cause_of asked ∙ cause_of-then (within inner (written rest push new child)) set)

-- whether a value is too heavy, what weighs beside it counted up to a bound
heavy-by : (b : Bool) (d : Data) → cause_of (cond b (Ok d) (Err TooHeavy)) ≡ (if b then None else Some TooHeavy)
heavy-by true d = refl
heavy-by false d = refl

pub is_light : (beside : ℕ) (d : Data) → beside + weight_of d ≤ weight_limit → None ≡ cause_of (within beside (Ok d))
is_light beside d h =
    let test : nat_le (beside + weight_of d) weight_limit ≡ true = grind (arith, nat_tests) in
    sym (heavy-by (nat_le (beside + weight_of d) weight_limit) d
    ∙ ap (λ (b : Bool). let o : Option WriteError = if b then None else Some TooHeavy in o) test)

pub is_heavy : (beside : ℕ) (d : Data) → weight_limit < beside + weight_of d
    → Some TooHeavy ≡ cause_of (within beside (Ok d))
is_heavy beside d h =
    let test : nat_le (beside + weight_of d) weight_limit ≡ false = grind (arith, nat_tests) in
    sym (heavy-by (nat_le (beside + weight_of d) weight_limit) d
    ∙ ap (λ (b : Bool). let o : Option WriteError = if b then None else Some TooHeavy in o) test)

-- what is answered of a write of a value of this weight before it is made
pub answered : (keys : List (Option Key)) (push : Bool) (new old : Data) (weight : ℕ) (o : Option WriteError)
    → ((d : Data) → min (weight_of d) 18446744073709551615 ≡ weight → o ≡ cause_of (within 0 (written keys push d old)))
    → min (weight_of new) 18446744073709551615 ≡ weight → o ≡ cause_of (write_result keys push new old)
answered keys push new old weight o answer weighs =
    answer new weighs ∙ ap cause_of (within_nothing (written keys push new old))

pub none-ok : (r : Result Data WriteError) → None ≡ cause_of r → IsOk r
none-ok (Ok d) h = refl
none-ok (Err e) h = cc

-- where nothing is answered, no cause is left
pub never : {A : Type 0} (r : Result Data WriteError) → IsOk r → (why : WriteError) → r ≡ Err why → A
never (Ok d) ok why h = absurd (cc)
never (Err e) ok why h = absurd (false≢true ok)

pub some-is : (r : Result Data WriteError) (e : WriteError) → Some e ≡ cause_of r → r ≡ Err e
some-is (Ok d) e h = cc
some-is (Err why) e h = ap Err (sym (same_Some e why h))

pub same-cause : {X : Type 0} (r : Result Data WriteError) (e : WriteError) → Some e ≡ cause_of r → (why : WriteError)
    → r ≡ Err why → ◌≡◌ {A = Result X WriteError} (Err e) (Err why)
same-cause (Ok d) e h why g = absurd (cc)
same-cause (Err x) e h why g = let same : x ≡ why = cc in ap Err (same_Some e x h ∙ same)

-- ---- results that are passed on
pub on_err : {X E : Type 0} (r : Result X E) (a b : Table) → a ≡ b → OnErr r (a ≡ b)
on_err (Ok x) a b same = tt
on_err (Err e) a b same = same

pub err-along : {X E : Type 0} (r : Result X E) (a b t : Table) → OnErr r (a ≡ b) → b ≡ t → OnErr r (a ≡ t)
err-along (Ok x) a b t h same = tt
err-along (Err e) a b t h same = h ∙ same

pub data-along : {X E : Type 0} (r : Result X E) (v w : Value) → OnErr r (v ≡ w) → OnErr r (data_of v ≡ data_of w)
data-along (Ok x) v w h = tt
data-along (Err e) v w h = ap data_of h

pub ok-along : {X E : Type 0} (r : Result X E) (asked : Result Data WriteError) (a b : Table) → OnOk r (a ≡ b)
    → asked ≡ Ok (data_of_table b) → OnOk r (asked ≡ Ok (data_of_table a))
ok-along (Ok x) asked a b h is =
    is ∙ ap (λ (t : Table). let r : Result Data WriteError = Ok (data_of_table t) in r) (sym h)
ok-along (Err e) asked a b h is = tt

-- ---- a write under a first key that is not refused: what is asked of the value there
pub record IsUnder (keys : List (Option Key)) (key : Key) (rest : List (Option Key)) (push : Bool) (new : Data)
    (t : Table) (child : Data) : Type 0 where
  pub first : keys ≡ Some key ∷ rest
  pub entry : entry_at t key ≡ child
  pub asked : IsOk (light (written_in keys push new t))

module _ {keys : List (Option Key)} {key : Key} {rest : List (Option Key)} {push : Bool} {new : Data} {t : Table}
    {child : Data} (is : IsUnder keys key rest push new t child) where
  abbrev with_child : Result Data WriteError → Result Data WriteError
  with_child r = light (then_data r (λ d. data_of_table (table_set t key d)))

  whole : light (written_in keys push new t) ≡ with_child (written rest push new child)
  whole =
      ap (λ (ks : List (Option Key)). light (written_in ks push new t)) is.first
      ∙ ap (λ (d : Data). with_child (written rest push new d)) is.entry

  set_light : (d : Data) → IsOk (with_child (Ok d)) → pairs_weight (put t.pairs key d) ≤ weight_limit
  set_light d h = light_enough (pairs_weight (put t.pairs key d)) (data_of_table (table_set t key d)) h

  child_light : (r : Result Data WriteError) → IsOk (with_child r) → IsOk (light r)
  child_light (Ok d) h =
      let all : pairs_weight (put t.pairs key d) ≤ weight_limit = set_light d h in
      let weighs : pairs_weight (put t.pairs key d) ≡ pairs_weight (put t.pairs key null) + weight_of d =
      weight-put key d t.pairs in
      let test : nat_le (weight_of d) weight_limit ≡ true = grind (arith, nat_tests) in
      ap (λ (b : Bool). let r : Result Data WriteError = cond b (Ok d) (Err TooHeavy) in is_ok r) test
  child_light (Err e) h = h

  asked_whole : IsOk (with_child (written rest push new child))
  asked_whole = subst (λ (r : Result Data WriteError). IsOk r) whole is.asked

  pub under-asked : IsOk (light (written rest push new child))
  under-asked = child_light (written rest push new child) asked_whole

  module _ (d : Data) (done : light (written rest push new child) ≡ Ok d) where
    asked_set : IsOk (with_child (Ok d))
    asked_set =
        subst (λ (r : Result Data WriteError). IsOk (with_child r)) (light_was (written rest push new child) d done)
        asked_whole

    pub under-light : pairs_weight (put t.pairs key d) ≤ weight_limit
    under-light = set_light d asked_set

    pub under-done : light (written_in keys push new t) ≡ Ok (data_of_table (table_set t key d))
    under-done =
        whole
        ∙ ap with_child (light_was (written rest push new child) d done)
        ∙ light_is (data_of_table (table_set t key d)) asked_set

  module _ (table : IsTable t) (found : value_at t key ≡ Some child) where
    pub under-back : {X E : Type 0} (r : Result X E) (d : Data)
        → OnOk r (light (written rest push new child) ≡ Ok d) → OnErr r (d ≡ child) →
        pairs_weight (swapped (swapped t.pairs key null) key d) ≤ weight_limit
    under-back (Ok x) d done err =
        let same : swapped (swapped t.pairs key null) key d ≡ put t.pairs key d = swapped-swapped key null d t.pairs
        ∙ sym (put-present key d child t.pairs found) in
        omega (arith, ap pairs_weight same, under-light d done)
    under-back (Err e) d done err =
        let same : swapped (swapped t.pairs key null) key d ≡ t.pairs =
        swapped-swapped key null d t.pairs ∙ ap (swapped t.pairs key) err ∙ swapped-same key child t.pairs found in
        omega (arith, ap pairs_weight same, table.light)

    pub under-ok : {X E : Type 0} (r : Result X E) (d : Data) (after : Table) → after ≡ table_exchange t key d
        → OnOk r (light (written rest push new child) ≡ Ok d) →
        OnOk r (light (written_in keys push new t) ≡ Ok (data_of_table after))
    under-ok (Ok x) d after h done =
        under-done d done ∙ ap (λ (u : Table). let r : Result Data WriteError = Ok (data_of_table u) in r)
        (set-present t key d child table found ∙ sym h)
    under-ok (Err e) d after h done = tt

    pub under-err : {X E : Type 0} (r : Result X E) (d : Data) (after : Table) → after ≡ table_exchange t key d
        → OnErr r (d ≡ child) → OnErr r (after ≡ t)
    under-err (Ok x) d after h err = tt
    under-err (Err e) d after h err = h ∙ ap (table_exchange t key) err ∙ exchange-same t key child found
