-- Lists grow by a push.
use Rattle.std.proofs.Common.{◌≡◌, ℕ, pos, zero, suc, ◌+◌, ◌<◌, ◌≤◌, Bool, true, false, nat_le, List, [], ◌∷◌, ◌++◌, length, Some, Ok, Err, refl, ap, sym, ◌∙◌, arith}
use Rattle.std.proofs.Common.{◌⊎◌, inl, inr, map, take, drop, slice_get, subst, append_assoc}
use Rattle.std.proofs.lemmas.Bool.Decides.{Decides-int_eq, nat_tests}
use Rattle.std.proofs.lemmas.Int.{ints, int_max_is}
use Rattle.std.proofs.lemmas.List.{length_push}
use Rattle.std.proofs.lemmas.Option.{same_Some}
use Rattle.std.specs.Int.{int_max}
use Rattle.std.specs.Ordering.{int_eq}
use Rattle.dp_value.specs.declared.errors.CallError.{CallError}
use Rattle.dp_value.specs.declared.errors.CallError.TheVariants.{TooHeavy, NextIndex, Memory}
use Rattle.dp_value.specs.declared.key.Key.{Key}
use Rattle.dp_value.specs.declared.key.Key.TheVariants.{Int}
use Rattle.dp_value.specs.Data.{Data, Table, pairs_weight, data_of_table}
use Rattle.dp_value.specs.Table.{put, raised, next_key, table_push, weight_limit, largest_int}
use Rattle.dp_operations.specs.Lists.{numbered, last_of, list_of, light_array}

pub length-le-weight : (ps : List (Key × Data)) → length ps ≤ pairs_weight ps
length-le-weight [] = omega arith
length-le-weight (p ∷ ps) = omega (arith, length-le-weight ps)

apart_by : (k m : ℕ) (b : Bool) → m < k → int_eq (pos k) (pos m) ≡ b → b ≡ false
apart_by k m false lt h = refl
apart_by k m true lt h =
    let e : pos k ≡ pos m = (Decides-int_eq (pos k) (pos m)).0 h in let n : k ≡ m = cc in absurd (omega arith)

apart : (k m : ℕ) → m < k → int_eq (pos k) (pos m) ≡ false
apart k m lt = apart_by k m (int_eq (pos k) (pos m)) lt refl

put-numbered : (m k : ℕ) (ds : List Data) (d : Data) → k ≡ m + length ds
    → put (numbered m ds) (Int (pos k)) d ≡ numbered m (ds ++ d ∷ [])
put-numbered m k [] d e = ap (λ n. (Int (pos n), d) ∷ []) (omega arith)
put-numbered m k (x ∷ ds) d e =
    let other = apart k m (omega arith) in
    rw other (ap (λ ps. (Int (pos m), x) ∷ ps) (put-numbered (suc m) k ds d (omega arith)))

next_of : (n : ℕ) → next_key (last_of n) ≡ pos n
next_of zero = refl
next_of (suc n) = omega (arith, ints)

raised_of : (n : ℕ) → raised (last_of n) (Int (pos n)) ≡ Some (pos n)
raised_of zero = refl
raised_of (suc n) =
    let top : int_max (pos n) (pos (suc n)) ≡ pos (suc n) = omega
    (arith, ints, int_max_is (pos n) (pos (suc n))) in ap Some top

pub push-list_of : (ds : List Data) (d : Data) → table_push (list_of ds) d ≡ list_of (ds ++ d ∷ [])
push-list_of ds d =
    let pairs : put (numbered 0 ds) (Int (next_key (last_of (length ds)))) d ≡ numbered 0 (ds ++ d ∷ []) =
    ap (λ k. put (numbered 0 ds) (Int k) d) (next_of (length ds)) ∙ put-numbered 0 (length ds) ds d (omega arith) in
    let longer : length (ds ++ d ∷ []) ≡ suc (length ds) = omega (arith, length_push ds d) in
    let largest : raised (last_of (length ds)) (Int (next_key (last_of (length ds)))) ≡ last_of
    (length (ds ++ d ∷ [])) =
    ap (λ k. raised (last_of (length ds)) (Int k)) (next_of (length ds)) ∙ raised_of (length ds)
    ∙ sym (ap last_of longer) in
    λ i. record { pairs = pairs i; largest = largest i }

weight-numbered-le : (n : ℕ) (ds es : List Data) → pairs_weight (numbered n ds) ≤ pairs_weight (numbered n (ds ++ es))
weight-numbered-le n [] es = omega arith
weight-numbered-le n (d ∷ ds) es = omega (arith, weight-numbered-le (suc n) ds es)

-- a list that begins with one that is too heavy is too heavy
pub heavy-list_of : (ds es : List Data) → weight_limit < pairs_weight (list_of ds).pairs
    → light_array (list_of (ds ++ es)) ≡ Err TooHeavy
heavy-list_of ds es h =
    let more : pairs_weight (numbered 0 ds) ≤ pairs_weight (numbered 0 (ds ++ es)) = weight-numbered-le 0 ds es in
    let test : nat_le (pairs_weight (numbered 0 (ds ++ es))) weight_limit ≡ false = grind (arith, nat_tests) in
    rw test

pub light-list_of : (ds : List Data) (t : Table) → t ≡ list_of ds → pairs_weight t.pairs ≤ weight_limit
    → light_array (list_of ds) ≡ Ok (data_of_table t)
light-list_of ds t is h =
    let light = subst (λ (x : Table). pairs_weight x.pairs ≤ weight_limit) is h in
    let test : nat_le (pairs_weight (numbered 0 ds)) weight_limit ≡ true = grind (arith, nat_tests, light) in
    rw test (ap (λ (x : Table). Ok (data_of_table x)) (sym is))

length-numbered : (n : ℕ) (ds : List Data) → length (numbered n ds) ≡ length ds
length-numbered n [] = refl
length-numbered n (d ∷ ds) = ap suc (length-numbered (suc n) ds)

last_is : (n : ℕ) → last_of n ≡ Some largest_int → n ≡ 9223372036854775808
last_is zero h = cc
last_is (suc n) h = let e : pos n ≡ pos 9223372036854775807 = cc in let m : n ≡ 9223372036854775807 = cc in omega arith

-- a list that is not too heavy has a next key
pub next-list_of : (ds : List Data) → pairs_weight (list_of ds).pairs ≤ weight_limit
    → (list_of ds).largest ≡ Some largest_int → ⊥
next-list_of ds light h = omega (arith, last_is (length ds) h, length-le-weight (numbered 0 ds), length-numbered 0 ds)

heavier : (ds es : List Data) (d : Data) → weight_limit < pairs_weight (table_push (list_of ds) d).pairs
    → light_array (list_of (ds ++ d ∷ es)) ≡ Err TooHeavy
heavier ds es d h =
    let pushed : weight_limit < pairs_weight (list_of (ds ++ d ∷ [])).pairs = subst
    (λ (x : Table). weight_limit < pairs_weight x.pairs) (push-list_of ds d) h in
    ap (λ l. light_array (list_of l)) (sym (append_assoc ds (d ∷ []) es)) ∙ heavy-list_of (ds ++ d ∷ []) es pushed

-- a list, by what stands before a place, there and behind it
pub split_at : {X : Type 0} (f : X → Data) (xs : List X) (i : ℕ) (x : X) → Some x ≡ slice_get xs i
    → map f xs ≡ map f (take i xs) ++ f x ∷ map f (drop (i + 1) xs)
split_at f [] i x h = cc
split_at f (y ∷ xs) zero x h = let same : x ≡ y = same_Some x y h in ap (λ z. f z ∷ map f xs) (sym same)
split_at f (y ∷ xs) (suc i) x h =
    let e : suc i + 1 ≡ suc (i + 1) = omega arith in rw e (ap (λ zs. f y ∷ zs) (split_at f xs i x h))

-- why a push at the end of a list was refused
pub refused : (ds es : List Data) (d : Data) (t : Table) (e : CallError) → t ≡ list_of ds
    → pairs_weight t.pairs ≤ weight_limit →
    (e ≡ Memory) ⊎ ((e ≡ NextIndex) × (t.largest ≡ Some largest_int))
    ⊎ ((e ≡ TooHeavy) × (weight_limit < pairs_weight (table_push t d).pairs)) →
    (e ≡ Memory) ⊎ (light_array (list_of (ds ++ d ∷ es)) ≡ Err e)
refused ds es d t e is light cause =
    elim cause [
      | inl memory ↦ inl memory
      | inr other ↦ elim other [
        | inl next ↦ absurd (next-list_of ds (subst (λ (x : Table). pairs_weight x.pairs ≤ weight_limit) is light)
            (sym (ap (λ (x : Table). x.largest) is) ∙ next.1))
        | inr heavy ↦ inr (heavier ds es d (subst (λ (x : Table). weight_limit < pairs_weight (table_push x d).pairs) is
            heavy.1) ∙ ap Err (sym heavy.0))
      ]
    ]
