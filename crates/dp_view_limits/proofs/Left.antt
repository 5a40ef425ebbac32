-- What is left of a count: whether it suffices, and behind parts, one at a time.
use Rattle.std.proofs.Common.{◌≡◌, ◌≢◌, ℕ, zero, suc, ◌+◌, ◌-◌, ◌*◌, ◌<◌, min, List, [], ◌∷◌, length, take, drop, Option, slice_get, nat_le, nat_lt, refl, sym, ap, ◌∙◌, arith}
use Rattle.std.specs.Prelude.{sum_by}
use Rattle.std.specs.Option.{option_map_or}
use Rattle.std.proofs.lemmas.Bool.Decides.{nat_tests}
use Rattle.std.proofs.lemmas.List.Sums.{sum_by-cons}
use Rattle.dp_value.specs.declared.key.Key.{Key}
use Rattle.dp_value.specs.declared.value.Value.TheVariants.{Array}
use Rattle.dp_value.specs.inner.Codes.{pairs_of-entries_of}
use Rattle.dp_value.specs.Data.{Data, Table}
use Rattle.dp_value.specs.Value.{data_of}
use Rattle.dp_view.specs.declared.paging.Paging.{Paging}
use Rattle.dp_view.specs.Properties.{page_of}
use Rattle.dp_view.proofs.Steps.{page_cut, slice_get_front}
use Rattle.dp_view_limits.specs.inner.Sizes.{array_size, entries_size, entry_size, value_size}

-- ---- whether it fits, by what is left of one byte more

pub fits_is : (left most count size made : ℕ) → count ≡ most → left ≡ count + 1 - size → made ≡ size
    → nat_lt 0 left ≡ nat_le made most
fits_is left most count size made same is whole = grind (arith, nat_tests)

-- ---- parts that stand one behind another

pub turn : (left rest all here more next : ℕ) → left - all ≡ rest - (here + more) → next ≡ rest - here
    → left - all ≡ next - more
turn left rest all here more next so_far is = omega (arith, so_far, is)

-- ---- sums

more : (n : ℕ) → suc n + 1 ≡ suc (n + 1)
more n = omega arith

pub sum_step : {A : Type 0} (f : A → ℕ) (xs : List A) (at : ℕ)
    → sum_by f (drop at xs) ≡ option_map_or f (slice_get xs at) 0 + sum_by f (drop (at + 1) xs)
sum_step f [] zero = refl
sum_step f [] (suc n) =
    let none : sum_by f (drop (suc n + 1) []) ≡ 0 = ap (λ k. sum_by f (drop k [])) (more n) in omega (arith, none)
sum_step f (x ∷ xs) zero = sum_by-cons f x xs
sum_step f (x ∷ xs) (suc n) =
    sum_step f xs n ∙ ap (λ k. option_map_or f (slice_get xs n) 0 + sum_by f (drop k (x ∷ xs))) (sym (more n))

pub front_step : {A : Type 0} (f : A → ℕ) (xs : List A) (at end : ℕ) → at < end
    → sum_by f (drop at (take end xs)) ≡ option_map_or f (slice_get xs at) 0 + sum_by f (drop (at + 1) (take end xs))
front_step {A} f xs at end below =
    sum_step f (take end xs) at
    ∙ ap (λ (o : Option A). option_map_or f o 0 + sum_by f (drop (at + 1) (take end xs)))
    (slice_get_front xs at end below)

-- ---- arrays

one_deeper : (p : Paging) (levels : ℕ) (full : Option ℕ) (es : List (Key × Data)) → levels ≢ 0
    → sum_by (entry_size p (entries_size p (levels - 1)) full) es ≡ entries_size p levels full es
one_deeper p zero full es some = absurd (some refl)
one_deeper p (suc levels) full es some =
    let less : suc levels - 1 ≡ levels = omega arith in ap (λ n. sum_by (entry_size p (entries_size p n) full) es) less

pub page_size : (p : Paging) (page levels : ℕ) (full : Option ℕ) (es : List (Key × Data)) (start end : ℕ) → levels ≢ 0
    → start ≡ min (page * p.children) (length es) → end ≡ min (start + p.children) (length es)
    → sum_by (entry_size p (entries_size p (levels - 1)) full) (drop start (take end es)) ≡ entries_size p levels full
    (page_of page p.children es)
page_size p page levels full es start end some s e =
    ap (λ (l : List (Key × Data)). sum_by (entry_size p (entries_size p (levels - 1)) full) l)
    (page_cut page p.children start end es s e)
    ∙ one_deeper p levels full (page_of page p.children es) some

pub array_is : (p : Paging) (page : ℕ) (nest : List (Key × Data) → ℕ) (t : Table)
    → array_size (length t.pairs) page p.children + nest (page_of page p.children t.pairs) ≡ value_size p page nest
    (data_of (Array t))
array_is p page nest t =
    ap (λ (ps : List (Key × Data)). array_size (length ps) page p.children + nest (page_of page p.children ps))
    (sym (pairs_of-entries_of t.pairs))
