-- Equality of keys: the derived test is the one of the specs, and it tells when two keys are one.
use Rattle.std.proofs.Common.{◌≡◌, Bool, true, false, List, refl, ap, sym, ◌∙◌}
use Rattle.std.proofs.Common.{[], ◌∷◌, ◌++◌}
use Rattle.std.proofs.lemmas.Bool.Decides.{Decides-eqb, Decides-int_eq}
use Rattle.std.proofs.lemmas.Slice.Eq.{slice_eq-Decides}
use Rattle.std.specs.Bool.{Decides}
use Rattle.std.specs.Cmp.{IsEquivalence}
use Rattle.std.specs.List.{list_any, IsDistinct}
use Rattle.std.proofs.Common.{ℕ, zero, suc, ◌<◌, length, get_or, take, subst, arith}
use Rattle.std.proofs.lemmas.List.Elements.{All-from_recursion}
use Rattle.std.proofs.lemmas.Map.Keys.{IsDistinct-head, IsDistinct-tail}
use Rattle.indexmap.specs.IndexSet.{insert_key}
use Rattle.dp_value.specs.declared.key.Key.{Key}
use Rattle.dp_value.specs.declared.key.Key.TheVariants.{Int, Text}
use Rattle.dp_value.specs.Key.{key_eq}
use Rattle.dp_value.specs.Place.{IsAbsent}
use Rattle.dp_value.proofs.PairLemmas.{absent-list_any}
use Rattle.dp_value.specs.contracts.key.KeyPartialEq.TheImpl.{ghosts}

pub derived_eq : (a b : Key) → ghosts.eq a b ≡ key_eq a b
derived_eq (Int a) (Int b) = refl
derived_eq (Int a) (Text b) = refl
derived_eq (Text a) (Int b) = refl
derived_eq (Text a) (Text b) = refl

-- the test tells when two keys are one
pub key_eq-Decides : (a b : Key) → Decides (key_eq a b) (a ≡ b)
key_eq-Decides (Int a) (Int b) = (λ h. ap Int ((Decides-int_eq a b).0 h), λ h. (Decides-int_eq a b).1 (cc))
key_eq-Decides (Int a) (Text b) = (λ h. cc, λ h. cc)
key_eq-Decides (Text a) (Int b) = (λ h. cc, λ h. cc)
key_eq-Decides (Text a) (Text b) = (
  λ h. ap Text ((slice_eq-Decides Decides-eqb a b _ refl).0 h),
  λ h. (slice_eq-Decides Decides-eqb a b _ refl).1 (cc),
)

key_eq-congr : (a b c : Key) → a ≡ b → key_eq a c ≡ key_eq b c
key_eq-congr a b c h = ap (λ (k : Key). key_eq k c) h

key_eq-symm : (a b : Key) (r s : Bool) → key_eq a b ≡ r → key_eq b a ≡ s → r ≡ s
key_eq-symm a b true true h g = refl
key_eq-symm a b false false h g = refl
key_eq-symm a b true false h g = sym ((key_eq-Decides b a).1 (sym ((key_eq-Decides a b).0 h))) ∙ g
key_eq-symm a b false true h g = sym h ∙ (key_eq-Decides a b).1 (sym ((key_eq-Decides b a).0 g))

pub key_eq_equivalence : IsEquivalence key_eq
key_eq_equivalence = record {
  refl = λ a. (key_eq-Decides a a).1 refl;
  symm = λ a b. key_eq-symm a b (key_eq a b) (key_eq b a) refl refl;
  congr = λ a b c h. key_eq-congr a b c ((key_eq-Decides a b).0 h);
}

-- a key that a set lacks goes last
pub inserted_new : (ks : List Key) (key : Key) → list_any (key_eq key) ks ≡ false
    → insert_key ghosts.eq ks key ≡ ks ++ key ∷ []
inserted_new ks key lacks =
    let any : list_any (ghosts.eq key) ks ≡ false = ap (λ (test : Key → Bool). list_any test ks)
    (λ i k. derived_eq key k i) ∙ lacks in
    rw any

pub inserted : (ks : List Key) (key : Key) → IsAbsent (key_eq key) ks → insert_key ghosts.eq ks key ≡ ks ++ key ∷ []
inserted ks key absent = inserted_new ks key (absent-list_any (key_eq key) ks absent)

-- distinct keys are so by either test
pub distinct_keys : (ks : List Key) → IsDistinct ghosts.eq ks → IsDistinct key_eq ks
distinct_keys ks is = subst (λ (eq : Key → Key → Bool). IsDistinct eq ks) (λ i a b. derived_eq a b i) is

-- a key of distinct ones is not among those before it
pub fresh : (ks : List Key) (i : ℕ) (k : Key) → IsDistinct key_eq ks → i < length ks → k ≡ get_or ks i k
    → list_any (key_eq k) (take i ks) ≡ false
fresh [] i k is within at = absurd (omega arith)
fresh (x ∷ ks) zero k is within at = refl
fresh (x ∷ ks) (suc i) k is within at =
    let apart : key_eq x (get_or ks i k) ≡ false =
    All-from_recursion (λ y. key_eq x y ≡ false) ks (IsDistinct-head key_eq x ks is) i k (omega arith) in
    let other : key_eq k x ≡ false = key_eq_equivalence.symm k x ∙ ap (key_eq x) at ∙ apart in
    rw other (fresh ks i k (IsDistinct-tail key_eq x ks is) (omega arith) at)
