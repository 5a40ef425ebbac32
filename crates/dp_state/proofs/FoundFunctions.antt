-- The search among declared functions, and for names of a file that are declared.
use Rattle.std.proofs.Common.{◌≡◌, ℕ, zero, suc, ◌+◌, ◌<◌, ◌≤◌, Bool, true, false, cond, nat_lt, ltb-true, ltb-false, if◌then◌else◌, ◌||◌, List, [], ◌∷◌, ◌++◌, append_assoc, append-nil, length, take, drop, drop-cons, get_or, Option, Some, None, is_some, slice_get, refl, sym, ap, ◌∙◌, arith}
use Rattle.std.specs.List.{list_any, position_from}
use Rattle.std.specs.Option.{option_map_or}
use Rattle.std.proofs.Math.Seq.{take-suc}
use Rattle.std.proofs.lemmas.List.Folds.{list_any-append}
use Rattle.std.specs.Str.{str_eq_ignore_ascii_case}
use Rattle.std.proofs.lemmas.Iterator.Adapters.{position_from-zero}
use Rattle.std.proofs.lemmas.Option.{same_Some, slice_get-get_or}
use Rattle.dp_tree.specs.declared.bundle.Bundle.{Bundle}
use Rattle.dp_tree.specs.declared.bundle.BundleFile.{BundleFile}
use Rattle.dp_tree.specs.declared.bundle.FunctionRef.{FunctionRef}
use Rattle.dp_tree.specs.declared.tree.Function.{Function}
use Rattle.dp_tree.specs.Files.{first_functions, function_named, functions_of}
use Rattle.dp_tree.proofs.FunctionIndex.{first_in}
use Rattle.dp_state.specs.declared.declarations.Part.{Part}
use Rattle.dp_state.specs.inner.Declarations.{functions_in, reference_in}
use Rattle.dp_state.specs.Functions.{any_declared, declared_function, is_declared, is_named}

-- ---- one name among the functions of a file

module _ (test : Function → Bool) where
  -- whether the function at a position passes
  abbrev passes : List Function → ℕ → Bool
  passes fs n = option_map_or test (slice_get fs n) false

  from_least : (fs : List Function) (k m : ℕ) → position_from test k fs ≡ Some m → k ≤ m
  from_least [] k m e = absurd cc
  from_least (f ∷ fs) k m e = by (test f) e (from_least fs (k + 1) m)
    where
      by : (b : Bool) → cond b (Some k) (position_from test (k + 1) fs) ≡ Some m
          → (position_from test (k + 1) fs ≡ Some m → k + 1 ≤ m) → k ≤ m
      by true e rest = let same : k ≡ m = same_Some k m e in omega arith
      by false e rest = let more : k + 1 ≤ m = rest e in omega arith

  none_passes : (fs : List Function) (k n : ℕ) → position_from test k fs ≡ None → passes fs n ≡ false
  none_passes [] k n e = refl
  none_passes (f ∷ fs) k n e = by n (test f) refl e (λ n. none_passes fs (k + 1) n)
    where
      by : (n : ℕ) (b : Bool) → test f ≡ b → cond b (Some k) (position_from test (k + 1) fs) ≡ None
          → ((n : ℕ) → position_from test (k + 1) fs ≡ None → passes fs n ≡ false) → passes (f ∷ fs) n ≡ false
      by n true is e rest = absurd cc
      by zero false is e rest = is
      by (suc n) false is e rest = rest n e

  found_passes : (fs : List Function) (k m n : ℕ) → position_from test k fs ≡ Some m → k + n ≡ m → passes fs n ≡ true
  found_passes [] k m n e at = absurd cc
  found_passes (f ∷ fs) k m n e at = by n (test f) refl e at (λ n. found_passes fs (k + 1) m n)
    where
      by : (n : ℕ) (b : Bool) → test f ≡ b → cond b (Some k) (position_from test (k + 1) fs) ≡ Some m → k + n ≡ m
          → ((n : ℕ) → position_from test (k + 1) fs ≡ Some m → k + 1 + n ≡ m → passes fs n ≡ true)
          → passes (f ∷ fs) n ≡ true
      by zero true is e at rest = is
      by (suc n) true is e at rest = let same : k ≡ m = same_Some k m e in absurd (omega arith)
      by zero false is e at rest = let more : k + 1 ≤ m = from_least fs (k + 1) m e in absurd (omega arith)
      by (suc n) false is e at rest = rest n e (omega arith)

  earlier_fails : (fs : List Function) (k m n : ℕ) → position_from test k fs ≡ Some m → k + n < m
      → passes fs n ≡ false
  earlier_fails [] k m n e before = absurd cc
  earlier_fails (f ∷ fs) k m n e before = by n (test f) refl e before (λ n. earlier_fails fs (k + 1) m n)
    where
      by : (n : ℕ) (b : Bool) → test f ≡ b → cond b (Some k) (position_from test (k + 1) fs) ≡ Some m → k + n < m
          → ((n : ℕ) → position_from test (k + 1) fs ≡ Some m → k + 1 + n < m → passes fs n ≡ false)
          → passes (f ∷ fs) n ≡ false
      by n true is e before rest = let same : k ≡ m = same_Some k m e in absurd (omega arith)
      by zero false is e before rest = is
      by (suc n) false is e before rest = rest n e (omega arith)

-- ---- the first of a name among the first functions of a file

module _ (bundle : Bundle) (name : List ℕ) (part : Part) where
  abbrev of_name : Function → Bool
  of_name f = str_eq_ignore_ascii_case name f.name

  abbrev functions : List Function
  functions = option_map_or (λ f. f.tree.functions) (slice_get bundle.files part.file) []

  abbrev at : ℕ → FunctionRef
  at n = record { file = part.file; function = n }

  named_at : (n : ℕ) → is_named bundle name (at n) ≡ passes of_name functions n
  named_at n = by (slice_get bundle.files part.file)
    where
      by : (o : Option BundleFile)
          → option_map_or of_name (option_map_or (λ f. slice_get f.tree.functions n) o None) false
          ≡ passes of_name (option_map_or (λ f. f.tree.functions) o []) n
      by None = refl
      by (Some f) = refl

  -- the one found among the first functions, or else another
  abbrev found_or : ℕ → Option ℕ → Option FunctionRef → Option FunctionRef
  found_or count None other = other
  found_or count (Some m) other = if nat_lt m count then Some (at m) else other

  found_next : (n : ℕ) (o : Option ℕ) (other : Option FunctionRef) → position_from of_name 0 functions ≡ o
      → found_or n o (if passes of_name functions n then Some (at n) else other) ≡ found_or (suc n) o other
  found_next n None other e =
      ap (λ b. if b then Some (at n) else other) (none_passes of_name functions 0 n e)
  found_next n (Some m) other e = by (nat_lt m n) refl (nat_lt m (suc n)) refl
    where
      by : (b : Bool) → nat_lt m n ≡ b → (d : Bool) → nat_lt m (suc n) ≡ d
          → (if b then Some (at m) else (if passes of_name functions n then Some (at n) else other))
          ≡ (if d then Some (at m) else other)
      by true p true q = refl
      by true p false q =
          let less : m < n = ltb-true m n p in
          let more : suc n ≤ m = ltb-false m (suc n) q in absurd (omega arith)
      by false p true q =
          let less : m < suc n = ltb-true m (suc n) q in
          let more : n ≤ m = ltb-false m n p in
          let same : n ≡ m = omega arith in
          ap (λ c. if c then Some (at n) else other) (found_passes of_name functions 0 m n e (omega arith))
          ∙ ap (λ k. Some (at k)) same
      by false p false q =
          let more : suc n ≤ m = ltb-false m (suc n) q in
          ap (λ c. if c then Some (at n) else other) (earlier_fails of_name functions 0 m n e (omega arith))

  first_among : (n : ℕ) (rest : List FunctionRef)
      → declared_function bundle name (first_functions part.file n ++ rest)
      ≡ found_or n (position_from of_name 0 functions) (declared_function bundle name rest)
  first_among zero rest = by (position_from of_name 0 functions)
    where
      by : (o : Option ℕ) → declared_function bundle name rest ≡ found_or 0 o (declared_function bundle name rest)
      by None = refl
      by (Some m) = nothing (nat_lt m 0) refl
        where
          nothing : (b : Bool) → nat_lt m 0 ≡ b → declared_function bundle name rest
              ≡ (if b then Some (at m) else declared_function bundle name rest)
          nothing true e = let less : m < 0 = ltb-true m 0 e in absurd (omega arith)
          nothing false e = refl
  first_among (suc n) rest =
      ap (declared_function bundle name) (append_assoc (first_functions part.file n) (at n ∷ []) rest)
      ∙ first_among n (at n ∷ rest)
      ∙ ap (λ b. found_or n (position_from of_name 0 functions)
      (if b then Some (at n) else declared_function bundle name rest)) (named_at n)
      ∙ found_next n (position_from of_name 0 functions) (declared_function bundle name rest) refl

  found_position : position_from of_name 0 functions ≡ function_named bundle part.file name
  found_position =
      sym (position_from-zero of_name functions) ∙ first_in (slice_get bundle.files part.file) of_name

-- ---- the first of a name among parts

option_else : Option FunctionRef → Option FunctionRef → Option FunctionRef
option_else None other = other
option_else (Some f) other = Some f

module _ (bundle : Bundle) (name : List ℕ) (part : Part) (rest : List FunctionRef) where
  as_else : (o : Option ℕ) (other : Option FunctionRef) → found_or bundle name part part.count o other
      ≡ option_else (reference_in part o) other
  unfolding option_else
  as_else None other = refl
  as_else (Some m) other = by (nat_lt m part.count)
    where
      by : (b : Bool) → (if b then Some (at bundle name part m) else other)
          ≡ option_else (if b then Some (at bundle name part m) else None) other
      by true = refl
      by false = refl

  part_first : declared_function bundle name (first_functions part.file part.count ++ rest)
      ≡ option_else (reference_in part (function_named bundle part.file name)) (declared_function bundle name rest)
  part_first =
      first_among bundle name part part.count rest
      ∙ ap (λ o. found_or bundle name part part.count o (declared_function bundle name rest))
      (found_position bundle name part)
      ∙ as_else (function_named bundle part.file name) (declared_function bundle name rest)

module _ (bundle : Bundle) (name : List ℕ) (parts : List Part) (i : ℕ) (other : Part) (within : i < length parts)
    (found : Option FunctionRef)
    (is : found ≡ reference_in (get_or parts i other) (function_named bundle (get_or parts i other).file name)) where
  here : declared_function bundle name (functions_in (drop i parts))
      ≡ option_else found (declared_function bundle name (functions_in (drop (suc i) parts)))
  here =
      ap (λ l. declared_function bundle name (functions_in l)) (drop-cons parts i other within)
      ∙ part_first bundle name (get_or parts i other) (functions_in (drop (suc i) parts))
      ∙ ap (λ o. option_else o (declared_function bundle name (functions_in (drop (suc i) parts)))) (sym is)

  pub declared_here : is_some found ≡ true → declared_function bundle name (functions_in (drop i parts)) ≡ found
  unfolding option_else
  declared_here some = here ∙ by found some
    where
      by : (o : Option FunctionRef) → is_some o ≡ true
          → option_else o (declared_function bundle name (functions_in (drop (suc i) parts))) ≡ o
      by None some = absurd cc
      by (Some f) some = refl

  pub declared_later : is_some found ≡ false → declared_function bundle name (functions_in (drop i parts))
      ≡ declared_function bundle name (functions_in (drop (i + 1) parts))
  unfolding option_else
  declared_later none =
      let next : suc i ≡ i + 1 = omega arith in
      here ∙ by found none
      ∙ ap (λ n. declared_function bundle name (functions_in (drop n parts))) next
    where
      by : (o : Option FunctionRef) → is_some o ≡ false
          → option_else o (declared_function bundle name (functions_in (drop (suc i) parts)))
          ≡ declared_function bundle name (functions_in (drop (suc i) parts))
      by None none = refl
      by (Some f) none = absurd cc

-- ---- parts that are added

pub part_added : (parts : List Part) (part : Part)
    → functions_in (parts ++ part ∷ []) ≡ functions_in parts ++ first_functions part.file part.count
part_added [] part = append-nil (first_functions part.file part.count)
part_added (p ∷ parts) part =
    ap (λ l. first_functions p.file p.count ++ l) (part_added parts part)
    ∙ sym (append_assoc (first_functions p.file p.count) (functions_in parts) (first_functions part.file part.count))

-- ---- names of a file
module _ (bundle : Bundle) (declared : List FunctionRef) (file : ℕ) where
  -- whether a function has the name of one that is declared
  abbrev has_name : Function → Bool
  has_name f = is_some (declared_function bundle f.name declared)

  abbrev counted_functions : Option BundleFile → List FunctionRef
  counted_functions o = first_functions file (option_map_or (λ f. length f.tree.functions) o 0)

  module _ (f : BundleFile) (found : slice_get bundle.files file ≡ Some f) where
    one_declared : (n : ℕ) (g : Function) → slice_get f.tree.functions n ≡ Some g
        → is_declared bundle declared (record { file = file; function = n }) ≡ has_name g
    one_declared n g at =
        ap (λ (o : Option BundleFile). option_map_or has_name
        (option_map_or (λ b. slice_get b.tree.functions n) o None) false) found
        ∙ ap (λ (o : Option Function). option_map_or has_name o false) at

    first_declared : (n : ℕ) → n ≤ length f.tree.functions
        → list_any (is_declared bundle declared) (first_functions file n) ≡ list_any has_name (take n f.tree.functions)
    first_declared zero within = refl
    first_declared (suc n) within = by f.tree.functions (first_declared n (omega arith)) (omega arith) (one_declared n)
      where
        by : (gs : List Function)
            → list_any (is_declared bundle declared) (first_functions file n) ≡ list_any has_name (take n gs)
            → n < length gs
            → ((g : Function) → slice_get gs n ≡ Some g
            → is_declared bundle declared (record { file = file; function = n }) ≡ has_name g)
            → list_any (is_declared bundle declared) (first_functions file (suc n)) ≡ list_any has_name
            (take (suc n) gs)
        by [] before some at = absurd (omega arith)
        by (h ∷ hs) before some at =
            list_any-append (is_declared bundle declared) (first_functions file n) _
            ∙ ap (λ b. b || (is_declared bundle declared (record { file = file; function = n }) || false)) before
            ∙ ap (λ b. list_any has_name (take n (h ∷ hs)) || (b || false))
            (at (get_or (h ∷ hs) n h) (slice_get-get_or (h ∷ hs) n h some))
            ∙ sym (list_any-append has_name (take n (h ∷ hs)) (get_or (h ∷ hs) n h ∷ []))
            ∙ sym (ap (list_any has_name) (take-suc (h ∷ hs) n h some))

    all_declared : list_any has_name f.tree.functions ≡ list_any (is_declared bundle declared)
        (first_functions file (length f.tree.functions))
    all_declared =
        sym (first_declared (length f.tree.functions) (omega arith)
        ∙ ap (list_any has_name) (take-all f.tree.functions))
      where
        take-all : (gs : List Function) → take (length gs) gs ≡ gs
        take-all [] = refl
        take-all (g ∷ gs) = ap (λ (hs : List Function). g ∷ hs) (take-all gs)

  -- a function of a file has the name of one that is declared
  pub names_declared : list_any has_name (option_map_or (λ f. f.tree.functions) (slice_get bundle.files file) []) ≡
      any_declared bundle declared (functions_of bundle file)
  names_declared = by (slice_get bundle.files file) refl
    where
      by : (o : Option BundleFile) → slice_get bundle.files file ≡ o
          → list_any has_name (option_map_or (λ f. f.tree.functions) o []) ≡ list_any (is_declared bundle declared)
          (counted_functions o)
      by None found = refl
      by (Some f) found = all_declared f found
