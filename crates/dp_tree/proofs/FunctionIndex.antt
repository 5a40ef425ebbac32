-- Indexes of functions by their names in lower case.
use Rattle.std.proofs.Common.{◌≡◌, ℕ, suc, ◌+◌, ◌<◌, Bool, true, false, cond, if◌then◌else◌, List, [], ◌∷◌, ◌++◌, length, take, get_or, Option, Some, None, is_some, slice_get, refl, sym, ap, ◌∙◌, subst, arith}
use Rattle.std.specs.Prelude.{position, IfSome, MatchOption}
use Rattle.std.specs.List.{position_from}
use Rattle.std.specs.Map.{lookup}
use Rattle.std.specs.Option.{option_map_or, IsSomeAnd}
use Rattle.std.specs.Str.{bytes_eq, str_to_ascii_lowercase}
use Rattle.std.specs.Cmp.Lexicographic.{bytes_decides}
use Rattle.std.proofs.Math.Seq.{take-suc}
use Rattle.std.proofs.lemmas.Iterator.Adapters.{position_from-zero}
use Rattle.std.proofs.lemmas.List.{length-take-le}
use Rattle.std.proofs.lemmas.Slice.Zip.{AllZip-left, AllZip-right, all_zipped_more}
use Rattle.std.proofs.lemmas.Option.{same_Some}
use Rattle.indexmap.specs.IndexMap.{insert_entry}
use Rattle.dp_tree.specs.declared.bundle.BundleFile.{BundleFile}
use Rattle.dp_tree.specs.declared.indexed.Index.{Index}
use Rattle.dp_tree.specs.declared.tree.Function.{Function}
use Rattle.dp_tree.specs.inner.Indexes.{AreIndexed, IsIndex, first_of, with_first}

-- the first function of a name in the file of a number
pub first_in : (o : Option BundleFile) (test : Function → Bool)
    → position test (option_map_or (λ f. f.tree.functions) o [])
    ≡ option_map_or (λ f. position test f.tree.functions) o None
first_in None test = refl
first_in (Some f) test = refl

-- ---- the first that is found, in a list with one item more

abbrev first_else : {A : Type 0} → Option A → Option A → Option A
first_else None other = other
first_else (Some a) other = Some a

else_none : {A : Type 0} (o : Option A) → first_else o None ≡ o
else_none None = refl
else_none (Some a) = refl

some_else : {A : Type 0} (o other : Option A) → is_some o ≡ true → first_else o other ≡ o
some_else None other e = cc
some_else (Some a) other e = refl

position-push : {A : Type 0} (test : A → Bool) (k : ℕ) (xs : List A) (y : A)
    → position_from test k (xs ++ y ∷ []) ≡ first_else (position_from test k xs)
    (if test y then Some (k + length xs) else None)
position-push test k [] y = ap (λ n. if test y then Some n else None) (let e : k ≡ k + 0 = omega arith in e)
position-push {A = A} test k (x ∷ xs) y = by (test x) (position-push test (k + 1) xs y)
  where
    by : (b : Bool) → position_from test (k + 1) (xs ++ y ∷ []) ≡ first_else (position_from test (k + 1) xs)
        (if test y then Some (k + 1 + length xs) else None)
        → cond b (Some k) (position_from test (k + 1) (xs ++ y ∷ []))
        ≡ first_else (cond b (Some k) (position_from test (k + 1) xs))
        (if test y then Some (k + suc (length xs)) else None)
    by true e = refl
    by false e = e
        ∙ ap (λ n. first_else (position_from test (k + 1) xs) (if test y then Some n else None))
        (let e : k + 1 + length xs ≡ k + suc (length xs) = omega arith in e)

lookup-push : (test : List ℕ → Bool) (es : List (List ℕ × ℕ)) (name : List ℕ) (number : ℕ)
    → lookup test (es ++ (name, number) ∷ []) ≡ first_else (lookup test es)
    (if test name then Some number else None)
lookup-push test [] name number = refl
lookup-push test (e ∷ es) name number = by (test e.0) (lookup-push test es name number)
  where
    by : (b : Bool) → lookup test (es ++ (name, number) ∷ []) ≡ first_else (lookup test es)
        (if test name then Some number else None)
        → cond b (Some e.1) (lookup test (es ++ (name, number) ∷ []))
        ≡ first_else (cond b (Some e.1) (lookup test es)) (if test name then Some number else None)
    by true h = refl
    by false h = h

-- ---- one function more

first-push : (fs : List Function) (f : Function) (name : List ℕ)
    → first_of (fs ++ f ∷ []) name ≡ first_else (first_of fs name)
    (if bytes_eq name (str_to_ascii_lowercase f.name) then Some (length fs) else None)
first-push fs f name =
    let test : Function → Bool = λ g. bytes_eq name (str_to_ascii_lowercase g.name) in
    position_from-zero test (fs ++ f ∷ [])
    ∙ position-push test 0 fs f
    ∙ ap (λ n. first_else (position_from test 0 fs) (if test f then Some n else None))
    (let e : 0 + length fs ≡ length fs = omega arith in e)
    ∙ ap (λ o. first_else o (if test f then Some (length fs) else None)) (sym (position_from-zero test fs))

pub index_one_more : (fs : List Function) (es : List (List ℕ × ℕ)) (f : Function) → IsIndex fs es
    → IsIndex (fs ++ f ∷ []) (with_first es (str_to_ascii_lowercase f.name) (length fs))
index_one_more fs es f is = record {
  finds =
      λ name. go name (is_some (lookup (bytes_eq low) es)) refl (bytes_eq name low) refl ∙ sym (first-push fs f name);
}
  where
    low : List ℕ
    low = str_to_ascii_lowercase f.name

    go : (name : List ℕ) (there : Bool) → is_some (lookup (bytes_eq low) es) ≡ there
        → (same : Bool) → bytes_eq name low ≡ same
        → lookup (bytes_eq name) (if there then es else es ++ (low, length fs) ∷ [])
        ≡ first_else (first_of fs name) (if same then Some (length fs) else None)
    go name true e false d = is.finds name ∙ sym (else_none (first_of fs name))
    go name true e true d =
        let found : is_some (first_of fs name) ≡ true =
        ap is_some (sym (is.finds name))
        ∙ ap (λ n. is_some (lookup (bytes_eq n) es)) ((bytes_decides name low).0 d) ∙ e in
        is.finds name ∙ sym (some_else (first_of fs name) (Some (length fs)) found)
    go name false e same d =
        lookup-push (bytes_eq name) es low (length fs)
        ∙ ap (λ o. first_else o (if bytes_eq name low then Some (length fs) else None)) (is.finds name)
        ∙ ap (λ b. first_else (first_of fs name) (if b then Some (length fs) else None)) d

-- the same for the function at a position
pub index_at : (fs : List Function) (i : ℕ) (f : Function) (es : List (List ℕ × ℕ)) (low : List ℕ)
    → i < length fs → f ≡ get_or fs i f → low ≡ str_to_ascii_lowercase f.name → IsIndex (take i fs) es
    → IsIndex (take (i + 1) fs) (with_first es low i)
index_at fs i f es low within at lower is =
    let seen : take (i + 1) fs ≡ take i fs ++ f ∷ [] = ap (λ n. take n fs) (let e : i + 1 ≡ suc i = omega arith in e)
    ∙ take-suc fs i f within ∙ ap (λ x. take i fs ++ x ∷ []) (sym at) in
    let long : length (take i fs) ≡ i = length-take-le i fs (omega arith) in
    subst (λ gs. IsIndex gs (with_first es low i)) (sym seen)
    (subst (λ n. IsIndex (take i fs ++ f ∷ []) (with_first es low n)) long
    (subst (λ l. IsIndex (take i fs ++ f ∷ []) (with_first es l (length (take i fs)))) (sym lower)
    (index_one_more (take i fs) es f is)))

-- ---- a name that is new goes last

insert-new : (es : List (List ℕ × ℕ)) (name : List ℕ) (number : ℕ) → is_some (lookup (bytes_eq name) es) ≡ false
    → insert_entry bytes_eq es name number ≡ es ++ (name, number) ∷ []
insert-new [] name number none = refl
insert-new (e ∷ es) name number none = by (bytes_eq name e.0) none (insert-new es name number)
  where
    by : (b : Bool) → is_some (cond b (Some e.1) (lookup (bytes_eq name) es)) ≡ false
        → (is_some (lookup (bytes_eq name) es) ≡ false
        → insert_entry bytes_eq es name number ≡ es ++ (name, number) ∷ [])
        → (if b then (e.0, number) ∷ es else e ∷ insert_entry bytes_eq es name number) ≡ e ∷ (es ++ (name, number) ∷ [])
    by true none rest = absurd cc
    by false none rest = ap (λ l. e ∷ l) (rest none)

pub as_first : (es : List (List ℕ × ℕ)) (name : List ℕ) (number : ℕ) → is_some (lookup (bytes_eq name) es) ≡ false
    → insert_entry bytes_eq es name number ≡ with_first es name number
as_first es name number none =
    insert-new es name number none ∙ sym (ap (λ b. if b then es else es ++ (name, number) ∷ []) none)

-- ---- the index of the file of a number

abbrev pub asked_first : List ℕ → Option BundleFile → Option ℕ
asked_first low o = option_map_or (λ f. first_of f.tree.functions low) o None

abbrev IsOf : BundleFile → Index → Type 0
IsOf file index = IsIndex file.tree.functions index.firsts.entries

module _ (files : List BundleFile) (indexes got : List Index) (are : AreIndexed files indexes) (same : got ≡ indexes)
    (number : ℕ) (low : List ℕ) where
  pub first_there : (index : Index) → Some index ≡ slice_get got number
      → lookup (bytes_eq low) index.firsts.entries ≡ asked_first low (slice_get files number)
  first_there index e =
      go (slice_get files number) (slice_get indexes number) (AllZip-right IsOf files indexes are number)
      (sym (e ∙ ap (λ l. slice_get l number) same))
    where
      go : (o : Option BundleFile) (p : Option Index) → MatchOption p (Unit {0}) (λ y. IsSomeAnd o (λ x. IsOf x y))
          → p ≡ Some index → lookup (bytes_eq low) index.firsts.entries ≡ asked_first low o
      go o None h e = absurd cc
      go None (Some y) h e = absurd h
      go (Some f) (Some y) h e = subst (λ (z : Index). lookup (bytes_eq low) z.firsts.entries
          ≡ first_of f.tree.functions low) (same_Some y index e) (h.finds low)

  pub first_missing : None ≡ slice_get got number → None ≡ asked_first low (slice_get files number)
  first_missing e =
      go (slice_get files number) (slice_get indexes number) (AllZip-left IsOf files indexes are number)
      (sym (e ∙ ap (λ l. slice_get l number) same))
    where
      go : (o : Option BundleFile) (p : Option Index) → MatchOption o (Unit {0}) (λ x. IsSomeAnd p (λ y. IsOf x y))
          → p ≡ None → None ≡ asked_first low o
      go None p h e = refl
      go (Some f) None h e = absurd h
      go (Some f) (Some y) h e = absurd cc

-- one file more
pub indexed_at : (fs : List BundleFile) (i : ℕ) (f : BundleFile) (indexes new : List Index) (index : Index)
    → i < length fs → f ≡ get_or fs i f → AreIndexed (take i fs) indexes
    → IsIndex f.tree.functions index.firsts.entries → new ≡ indexes ++ index ∷ [] → AreIndexed (take (i + 1) fs) new
indexed_at fs i f indexes new index within at are is pushed =
    let seen : take (i + 1) fs ≡ take i fs ++ f ∷ [] = ap (λ n. take n fs) (let e : i + 1 ≡ suc i = omega arith in e)
    ∙ take-suc fs i f within ∙ ap (λ x. take i fs ++ x ∷ []) (sym at) in
    subst (λ (l : List Index). AreIndexed (take (i + 1) fs) l) (sym pushed)
    (subst (λ gs. AreIndexed gs (indexes ++ index ∷ [])) (sym seen)
    (all_zipped_more IsOf (take i fs) indexes f index are is))

-- a name that is kept in lower case
pub low_name : (o : Option (List ℕ)) (low written name : List ℕ) → IfSome o (λ l. l ≡ str_to_ascii_lowercase written)
    → o ≡ Some low → written ≡ name → low ≡ str_to_ascii_lowercase name
low_name None low written name h e same = absurd cc
low_name (Some l) low written name h e same = sym (same_Some l low e) ∙ h ∙ ap str_to_ascii_lowercase same
