-- The rows of an array of which some are removed already, and the place of a key in a column like that.
use Rattle.std.proofs.Common.{◌≡◌, ℕ, zero, suc, ◌+◌, ◌≤◌, ◌<◌, Bool, true, false, List, [], ◌∷◌, ◌++◌, length, set, take, drop, remove, refl, sym, ◌∙◌, subst, inl, inr, length-append, arith}
use Rattle.std.proofs.lemmas.Bool.{cases_eq, cases_lt}
use Rattle.std.proofs.lemmas.List.{get_or-set_other, get_or-set_same, get_or_append_left, length-set, length_push}
use Rattle.std.proofs.lemmas.List.Edits.{get_or-remove_below, length-remove, length-swap, swapped_from_swap}
use Rattle.std.proofs.lemmas.Map.Keys.{IsDistinct-head, IsDistinct-tail}
use Rattle.std.specs.List.{swap, IsDistinct}
use Rattle.dp_value.specs.declared.key.Key.{Key}
use Rattle.dp_value.specs.declared.value.Value.{Value}
use Rattle.dp_value.specs.declared.value.Value.TheVariants.{Null}
use Rattle.dp_value.specs.Place.{IsAbsent, IsFirst}
use Rattle.dp_value.specs.inner.Left.{left, row_at}
use Rattle.dp_value.specs.inner.Rows.{AreNull, AreRows, GoesLast, Rises}
use Rattle.dp_value.proofs.LeftLemmas.{length-left, left-next, left-none, left-push, left-remove, left-swap, left-swap_back, row-before, row-behind}
use Rattle.dp_value.proofs.RisingLemmas.{rising-remove}

-- ---- the rows that are removed
pub AreNull-none : (s : ℕ) (vs : List Value) → s ≤ length vs → AreNull s 0 vs
AreNull-none s vs within = record { within = omega arith; null = λ r from to. absurd (omega arith) }

row_apart : (s g i r : ℕ) → s ≤ r → r < s + g → r ≡ row_at s g i → ⊥
row_apart s g i r from to at = elim (cases_lt i s) [
  | inl before ↦ omega (arith, row-before s g i before)
  | inr behind ↦ omega (arith, row-behind s g i behind)
]

pub AreNull-set : (s g i : ℕ) (vs : List Value) (v : Value) → AreNull s g vs → AreNull s g (set vs (row_at s g i) v)
AreNull-set s g i vs v are = record {
  within = omega (arith, length-set vs (row_at s g i) v);
  null =
      λ r from to. get_or-set_other vs (row_at s g i) r v Null (row_apart s g i r from to) ∙ are.null r from to;
}

AreNull-append : (s g : ℕ) (vs ws : List Value) → AreNull s g vs → AreNull s g (vs ++ ws)
AreNull-append s g vs ws are = record {
  within = omega (arith, length-append vs ws);
  null = λ r from to. get_or_append_left vs ws Null r (omega arith) ∙ are.null r from to;
}

AreNull-remove : (s g i : ℕ) (vs : List Value) → AreNull s g vs → s ≤ i → g + i < length vs
    → AreNull s g (remove vs (g + i))
AreNull-remove s g i vs are past within = record {
  within = omega (arith, length-remove vs (g + i) within);
  null = λ r from to. get_or-remove_below vs (g + i) Null r (omega arith) within ∙ are.null r from to;
}

AreNull-next : (s g : ℕ) (vs : List Value) → AreNull s g vs → s + g < length vs
    → AreNull s (suc g) (set vs (s + g) Null)
AreNull-next s g vs are within = record {
  within = omega (arith, length-set vs (s + g) Null);
  null = λ r from to. elim (cases_eq r (s + g)) [
    | inl at ↦ rw at (get_or-set_same vs (s + g) Null Null within)
    | inr other ↦ get_or-set_other vs (s + g) r Null Null other ∙ are.null r from (omega (arith, other))
  ];
}

-- the first row behind them moves before them, or the last row before them moves behind them
AreNull-swap : (s g : ℕ) (vs : List Value) → 0 < g → AreNull s g vs → s + g < length vs
    → AreNull (suc s) g (swap vs s (s + g))
AreNull-swap s g vs some are within =
    let swapped = swapped_from_swap vs (swap vs s (s + g)) s (s + g) Null (omega arith) within refl in
    record {
      within = omega (arith, length-swap vs s (s + g));
      null = λ r from to. elim (cases_eq r (s + g)) [
        | inl at ↦ rw at (swapped.1 ∙ are.null s (omega arith) (omega arith))
        | inr other ↦ swapped.2 r (λ at. omega arith) other ∙ are.null r (omega arith) (omega (arith, other))
      ];
    }

AreNull-back : (s g : ℕ) (vs : List Value) → 0 < g → AreNull (suc s) g vs → AreNull s g (swap vs s (s + g))
AreNull-back s g vs some are =
    let swapped = swapped_from_swap vs (swap vs s (s + g)) s (s + g) Null (omega arith) (omega arith) refl in
    record {
      within = omega (arith, length-swap vs s (s + g));
      null = λ r from to. elim (cases_eq r s) [
        | inl at ↦ rw at (swapped.0 ∙ are.null (s + g) (omega arith) (omega arith))
        | inr other ↦ swapped.2 r other (λ at. omega arith) ∙ are.null r (omega (arith, other)) (omega arith)
      ];
    }

-- ---- columns of keys and of values
rises-remove : (r : Bool) (ks : List Key) (i : ℕ) → Rises r ks → Rises r (remove ks i)
rises-remove true ks i rise = rising-remove ks i rise
rises-remove false ks i rise = tt

rises-push : (s g : ℕ) (r : Bool) (ks : List Key) (key : Key) → GoesLast s g r ks key
    → Rises r (left s g ks ++ key ∷ [])
rises-push s g true ks key way = way
rises-push s g false ks key way = tt

module _ {s g : ℕ} {r : Bool} {ks : List Key} {vs : List Value} (are : AreRows s g r ks vs) where
  pub rows-length : length (left s g vs) ≡ length (left s g ks)
  rows-length =
      let within : s + g ≤ length vs = omega (arith, are.keys.within, are.same_length) in
      omega (arith, are.same_length, length-left s g ks are.keys.within, length-left s g vs within)

  -- in a set
  pub rows-indexed : AreRows s g false ks vs
  rows-indexed = record {
    keys = record { within = are.keys.within; rises = tt };
    nulls = are.nulls;
    same_length = are.same_length;
  }

  -- one more behind them
  pub rows-push : (key : Key) (v : Value) → GoesLast s g r ks key → AreRows s g r (ks ++ key ∷ []) (vs ++ v ∷ [])
  rows-push key v way = record {
    keys = record {
      within = omega (arith, are.keys.within, length_push ks key);
      rises = rw (left-push s g ks (key ∷ []) are.keys.within) (rises-push s g r ks key way);
    };
    nulls = AreNull-append s g vs (v ∷ []) are.nulls;
    same_length = omega (arith, are.same_length, length_push ks key, length_push vs v);
  }

  -- one behind those that are removed closes up
  pub rows-remove : (i : ℕ) → s ≤ i → g + i < length vs → AreRows s g r (remove ks (g + i)) (remove vs (g + i))
  rows-remove i past within =
      let there : g + i < length ks = omega (arith, are.same_length) in
      let short = length-remove ks (g + i) there in
      record {
        keys = record {
          within = omega (arith, short);
          rises = rw (left-remove s g i ks past) (rises-remove r (left s g ks) i are.keys.rises);
        };
        nulls = AreNull-remove s g i vs are.nulls past within;
        same_length = omega (arith, are.same_length, short, length-remove vs (g + i) within);
      }

  -- the first one behind those that are removed becomes one of them
  pub rows-mark : s + g < length vs → AreRows s (suc g) r ks (set vs (s + g) Null)
  rows-mark within = record {
    keys = record {
      within = omega (arith, are.same_length);
      rises = rw (left-next s g ks) (rises-remove r (left s g ks) s are.keys.rises);
    };
    nulls = AreNull-next s g vs are.nulls within;
    same_length = length-set vs (s + g) Null ∙ are.same_length;
  }

  -- it moves before them
  pub rows-swap : 0 < g → s + g < length vs → AreRows (suc s) g r (swap ks s (s + g)) (swap vs s (s + g))
  rows-swap some within =
      let there : s + g < length ks = omega (arith, are.same_length) in
      record {
        keys = record {
          within = omega (arith, there, length-swap ks s (s + g));
          rises = rw (left-swap s g ks some there) are.keys.rises;
        };
        nulls = AreNull-swap s g vs some are.nulls within;
        same_length = length-swap vs s (s + g) ∙ are.same_length ∙ sym (length-swap ks s (s + g));
      }

-- the last row before those that are removed moves behind them
pub rows-back : {s g : ℕ} {r : Bool} {ks : List Key} {vs : List Value} → AreRows (suc s) g r ks vs → 0 < g
    → AreRows s g r (swap ks s (s + g)) (swap vs s (s + g))
rows-back {s} {g} {r} {ks} {vs} are some =
    let there : s + g < length ks = omega (arith, are.keys.within) in
    record {
      keys = record {
        within = omega (arith, there, length-swap ks s (s + g));
        rises = rw (left-swap_back s g ks some there) are.keys.rises;
      };
      nulls = AreNull-back s g vs some are.nulls;
      same_length = length-swap vs s (s + g) ∙ are.same_length ∙ sym (length-swap ks s (s + g));
    }

-- where none is removed, they may begin anywhere
pub rows-none : {s : ℕ} {r : Bool} {ks : List Key} {vs : List Value} → AreRows s 0 r ks vs → (t : ℕ) → t ≤ length vs
    → AreRows t 0 r ks vs
rows-none {s} {r} {ks} {vs} are t within = record {
  keys = record {
    within = omega (arith, are.same_length);
    rises = rw (left-none t ks) (rw (left-none s ks) at are.keys.rises);
  };
  nulls = AreNull-none t vs within;
  same_length = are.same_length;
}

-- ---- the place of a key
absent_behind : {X : Type 0} (test : X → Bool) (g : ℕ) (xs : List X) → IsAbsent test xs → IsAbsent test (drop g xs)
absent_behind test zero xs h = h
absent_behind test (suc g) [] h = tt
absent_behind test (suc g) (x ∷ xs) h = absent_behind test g xs h.1

pub absent_left : {X : Type 0} (test : X → Bool) (s g : ℕ) (xs : List X) → IsAbsent test xs
    → IsAbsent test (left s g xs)
absent_left test zero g xs h = absent_behind test g xs h
absent_left test (suc s) g [] h = tt
absent_left test (suc s) g (x ∷ xs) h = (h.0, absent_left test s g xs h.1)

pub absent_whole : {X : Type 0} (test : X → Bool) (g : ℕ) (xs : List X) → IsAbsent test (take g xs)
    → IsAbsent test (drop g xs) → IsAbsent test xs
absent_whole test zero xs before behind = behind
absent_whole test (suc g) [] before behind = tt
absent_whole test (suc g) (x ∷ xs) before behind = (before.0, absent_whole test g xs before.1 behind)

pub first-within : {X : Type 0} (test : X → Bool) (n : ℕ) (xs : List X) → IsFirst test xs n → n < length xs
first-within test n [] h = absurd h
first-within test zero (x ∷ xs) h = omega arith
first-within test (suc n) (x ∷ xs) h = omega (arith, first-within test n xs h.1)

-- a row before those that are removed, and one behind them
pub first_above : {X : Type 0} (test : X → Bool) (s g n : ℕ) (xs : List X) → IsFirst test xs n → n < s
    → IsFirst test (left s g xs) n
first_above test zero g n xs h above = absurd (omega arith)
first_above test (suc s) g n [] h above = absurd h
first_above test (suc s) g zero (x ∷ xs) h above = h
first_above test (suc s) g (suc n) (x ∷ xs) h above = (h.0, first_above test s g n xs h.1 (omega arith))

first_below : {X : Type 0} (test : X → Bool) (g i n : ℕ) (xs : List X) → IsFirst test xs n → n ≡ g + i
    → IsFirst test (drop g xs) i
first_below test zero i n xs h at = let e : n ≡ i = omega arith in rw e at h
first_below test (suc g) i n [] h at = absurd h
first_below test (suc g) i zero (x ∷ xs) h at = absurd (omega arith)
first_below test (suc g) i (suc n) (x ∷ xs) h at = first_below test g i n xs h.1 (omega arith)

pub first_left : {X : Type 0} (test : X → Bool) (s g i n : ℕ) (xs : List X) → IsFirst test xs n → n ≡ g + i → s ≤ i
    → IsFirst test (left s g xs) i
first_left test zero g i n xs h at past = first_below test g i n xs h at
first_left test (suc s) g i n [] h at past = absurd h
first_left test (suc s) g zero n (x ∷ xs) h at past = absurd (omega arith)
first_left test (suc s) g (suc i) zero (x ∷ xs) h at past = absurd (omega arith)
first_left test (suc s) g (suc i) (suc n) (x ∷ xs) h at past =
    (h.0, first_left test s g i n xs h.1 (omega arith) (omega arith))

-- a row that is removed is not among those that are left
module _ {X : Type 0} (eq : X → X → Bool) (exact : (x y : X) → eq x y ≡ true → x ≡ y) where
  gone-absent_behind : (x : X) (g n : ℕ) (ys : List X) → IsDistinct eq ys → IsFirst (eq x) ys n → n < g
      → IsAbsent (eq x) (drop g ys)
  gone-absent_behind x zero n ys is h before = absurd (omega arith)
  gone-absent_behind x (suc g) n [] is h before = absurd h
  gone-absent_behind x (suc g) zero (y ∷ ys) is h before =
      absent_behind (eq x) g ys (subst (λ (z : X). IsAbsent (eq z) ys) (sym (exact x y h)) (IsDistinct-head eq y ys is))
  gone-absent_behind x (suc g) (suc n) (y ∷ ys) is h before =
      gone-absent_behind x g n ys (IsDistinct-tail eq y ys is) h.1 (omega arith)

  pub gone-absent_left : (x : X) (s g n : ℕ) (ys : List X) → IsDistinct eq ys → IsFirst (eq x) ys n → s ≤ n
      → n < s + g → IsAbsent (eq x) (left s g ys)
  gone-absent_left x zero g n ys is h from below = gone-absent_behind x g n ys is h (omega arith)
  gone-absent_left x (suc s) g n [] is h from below = tt
  gone-absent_left x (suc s) g zero (y ∷ ys) is h from below = absurd (omega arith)
  gone-absent_left x (suc s) g (suc n) (y ∷ ys) is h from below =
      (h.0, gone-absent_left x s g n ys (IsDistinct-tail eq y ys is) h.1 (omega arith) (omega arith))
