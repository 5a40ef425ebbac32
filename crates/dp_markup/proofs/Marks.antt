-- Bytes up to the first place where a mark stands.
use Rattle.std.proofs.Common.{◌≡◌, inr, ℕ, zero, suc, ◌+◌, ◌-◌, ◌<◌, ◌≤◌, length-drop, Bool, true, false, ◌&&◌, [], ◌∷◌, ◌++◌, length, take, drop, Option, Some, None, sym, refl, ap, ◌∙◌, subst, append_assoc, append-nil, length-append, cond, arith, nat_eq}
use Rattle.std.proofs.lemmas.Bool.{eqb-true, eq-eqb}
use Rattle.std.specs.Option.{option_map}
use Rattle.std.proofs.lemmas.List.{drop-append-le, take-append-drop}
use Rattle.memchr.specs.Find.{OccursAt, FindsNeedle}
use Rattle.memchr.proofs.lemmas.MatchLemmas.{OccursAt-from_part, OccursAt-split}
use Rattle.dp_markup.specs.Grammar.{Text, is_front_of, IsFree, UpTo}
use Rattle.dp_markup.specs.inner.Readers.{mark_place, cut, up_to}
use Rattle.dp_markup.proofs.Answers.{Anything, IsRead, IsRefused, Answers}
use Rattle.dp_markup.proofs.Basics.{IsReader}

and_true : (u v : Bool) → (u && v) ≡ true → (u ≡ true) × (v ≡ true)
and_true true v is = (refl, is)
and_true false v is = absurd (cc)

true_and : (u v : Bool) → u ≡ true → v ≡ true → (u && v) ≡ true
true_and u v one other = ap (λ x. x && v) one ∙ other

pub stands_here : (m r : Text) → is_front_of m (m ++ r) ≡ true
stands_here [] r = refl
stands_here (c ∷ m) r = true_and (nat_eq c c) (is_front_of m (m ++ r)) (eq-eqb c c refl) (stands_here m r)

-- what stands at the front is the front
pub stands_is : (m ts : Text) → is_front_of m ts ≡ true → (r : Text) × (ts ≡ m ++ r)
stands_is [] ts is = (ts, refl)
stands_is (c ∷ m) [] is = absurd (cc)
stands_is (c ∷ m) (b ∷ ts) is =
    let p = and_true (nat_eq c b) (is_front_of m ts) is in
    let w = stands_is m ts p.1 in
    (w.0, (λ i. sym (eqb-true c b p.0) i ∷ w.1 i))

-- bytes that are as long as the mark decide
pub stands_more : (m u r : Text) → length m ≤ length u → is_front_of m (u ++ r) ≡ is_front_of m u
stands_more [] u r long = refl
stands_more (c ∷ m) [] r long = absurd (omega arith)
stands_more (c ∷ m) (b ∷ u) r long = ap (λ v. nat_eq c b && v) (stands_more m u r (omega arith))

-- where the mark stands in bytes that are shorter, they are the front of it
stands_short : (m ts more r : Text) → is_front_of m ts ≡ false → ts ++ more ≡ m ++ r → (tail : Text) × (m ≡ ts ++ tail)
stands_short m [] more r fails e = (m, refl)
stands_short [] (b ∷ ts) more r fails e = absurd (cc)
stands_short (c ∷ m) (b ∷ ts) more r fails e =
    let same : c ≡ b = cc in
    let tails : ts ++ more ≡ m ++ r = cc in
    let none : is_front_of m ts ≡ false = ap (λ v. v && is_front_of m ts) (sym (eq-eqb c b same)) ∙ fails in
    let w = stands_short m ts more r none tails in
    (w.0, (λ i. same i ∷ w.1 i))

cons_long : (m : Text) (b : ℕ) (bytes : Text) → length m ≤ length ((b ∷ bytes) ++ m)
cons_long m b bytes = omega (arith, length-append (b ∷ bytes) m)

cancel : (xs r s : Text) → xs ++ r ≡ xs ++ s → r ≡ s
cancel [] r s e = e
cancel (x ∷ xs) r s e = let t : xs ++ r ≡ xs ++ s = cc in cancel xs r s t

-- the mark does not begin at the first byte
not_at_first : (m : Text) (b : ℕ) (bytes r s : Text) → IsFree m (b ∷ bytes) → (b ∷ bytes) ++ (m ++ r) ≡ m ++ s → ⊥
not_at_first m b bytes r s free e =
    let whole : ((b ∷ bytes) ++ m) ++ r ≡ m ++ s = append_assoc (b ∷ bytes) m r ∙ e in
    let here : is_front_of m ((b ∷ bytes) ++ m) ≡ true = sym (stands_more m ((b ∷ bytes) ++ m) r (cons_long m b bytes))
    ∙ ap (is_front_of m) whole ∙ stands_here m s in
    let none : is_front_of m ((b ∷ bytes) ++ m) ≡ false = free.0 in
    cc

-- the first place is one place
one_place : (m bytes others r s : Text) → IsFree m bytes → IsFree m others → bytes ++ (m ++ r) ≡ others ++ (m ++ s)
    → (others ≡ bytes) × (s ≡ r)
one_place m [] [] r s f g e = (refl, sym (cancel m r s e))
one_place m [] (b ∷ others) r s f g e = absurd (not_at_first m b others s r g (sym e))
one_place m (b ∷ bytes) [] r s f g e = absurd (not_at_first m b bytes r s f e)
one_place m (b ∷ bytes) (c ∷ others) r s f g e =
    let heads : b ≡ c = cc in
    let tails : bytes ++ (m ++ r) ≡ others ++ (m ++ s) = cc in
    let w = one_place m bytes others r s f.1 g.1 tails in
    ((λ i. sym heads i ∷ w.0 i), w.1)

-- the mark is found at its first place
record IsFound (m ts : Text) (at : ℕ) : Type 0 where
  bytes : Text
  rest : Text
  split : ts ≡ bytes ++ (m ++ rest)
  free : IsFree m bytes
  is_at : at ≡ length bytes

-- or it is nowhere, and the bytes can be gone on to where it is
record IsMissing (m ts : Text) : Type 0 where
  none : (bytes r : Text) → ts ≡ bytes ++ (m ++ r) → ⊥
  more : Text
  bytes : Text
  split : ts ++ more ≡ bytes ++ m
  free : IsFree m bytes

Searched : Text → Text → Option ℕ → Type 0
Searched m ts None = IsMissing m ts
Searched m ts (Some at) = IsFound m ts at

found_here : (m ts : Text) → is_front_of m ts ≡ true → IsFound m ts 0
found_here m ts is =
    let w = stands_is m ts is in record { bytes = []; rest = w.0; split = w.1; free = tt; is_at = refl }

missing_at_end : (m : Text) → is_front_of m [] ≡ false → IsMissing m []
missing_at_end m fails = record { none = none; more = m; bytes = []; split = refl; free = tt }
  where
    none : (bytes r : Text) → [] ≡ bytes ++ (m ++ r) → ⊥
    none [] r e = let t : is_front_of m [] ≡ true = ap (is_front_of m) e ∙ stands_here m r in cc
    none (b ∷ bytes) r e = cc

module _ (m : Text) (b : ℕ) (ts : Text) (fails : is_front_of m (b ∷ ts) ≡ false) where
  found_on : (at : ℕ) → IsFound m ts at → IsFound m (b ∷ ts) (suc at)
  found_on at f = record {
    bytes = b ∷ f.bytes;
    rest = f.rest;
    split = ap (λ l. b ∷ l) f.split;
    free = (
      sym (stands_more m ((b ∷ f.bytes) ++ m) f.rest (cons_long m b f.bytes))
          ∙ ap (is_front_of m) (append_assoc (b ∷ f.bytes) m f.rest ∙ sym (ap (λ l. b ∷ l) f.split)) ∙ fails,
      f.free,
    );
    is_at = ap suc f.is_at;
  }

  missing_on : IsMissing m ts → IsMissing m (b ∷ ts)
  missing_on f = go (is_front_of m ((b ∷ f.bytes) ++ m)) refl
    where
      none : (bytes r : Text) → b ∷ ts ≡ bytes ++ (m ++ r) → ⊥
      none [] r e = let t : is_front_of m (b ∷ ts) ≡ true = ap (is_front_of m) e ∙ stands_here m r in cc
      none (c ∷ bytes) r e = f.none bytes r (cc)

      go : (v : Bool) → is_front_of m ((b ∷ f.bytes) ++ m) ≡ v → IsMissing m (b ∷ ts)
      go false is =
          record {
            none = none;
            more = f.more;
            bytes = b
                ∷ f.bytes;
            split = ap (λ l. b ∷ l) f.split;
            free = (is, f.free);
          }
      go true is =
          let w = stands_is m ((b ∷ f.bytes) ++ m) is in
          let t = stands_short m (b ∷ ts) f.more w.0 fails (ap (λ l. b ∷ l) f.split ∙ w.1) in
          record { none = none; more = t.0; bytes = []; split = sym t.1; free = tt }

  searched_on : (o : Option ℕ) → Searched m ts o → Searched m (b ∷ ts) (option_map suc o)
  unfolding Searched
  searched_on None f = missing_on f
  searched_on (Some at) f = found_on at f

searched : (m ts : Text) → Searched m ts (mark_place m ts)
unfolding Searched
searched m [] = go (is_front_of m []) refl
  where
    go : (v : Bool) → is_front_of m [] ≡ v → Searched m [] (cond v (Some 0) None)
    go true is = found_here m [] is
    go false is = missing_at_end m is
searched m (b ∷ ts) = go (searched m ts) (is_front_of m (b ∷ ts)) refl
  where
    go : Searched m ts (mark_place m ts) → (v : Bool) → is_front_of m (b ∷ ts) ≡ v
        → Searched m (b ∷ ts) (cond v (Some 0) (option_map suc (mark_place m ts)))
    go on true is = found_here m (b ∷ ts) is
    go on false is = searched_on m b ts is (mark_place m ts) on

take_front : (xs ys : Text) → take (length xs) (xs ++ ys) ≡ xs
take_front [] ys = refl
take_front (x ∷ xs) ys = ap (λ l. x ∷ l) (take_front xs ys)

drop_front : (xs ys : Text) → drop (length xs) (xs ++ ys) ≡ ys
drop_front [] ys = refl
drop_front (x ∷ xs) ys = drop_front xs ys

up_to_read : (m : Text) (level : ℕ) (ts : Text) (at : ℕ) → IsFound m ts at
    → IsRead (λ _. UpTo m) Anything level ts (take at ts) (drop (at + length m) ts)
up_to_read m level ts at f = record {
  text = f.bytes ++ m;
  split = ts_is ∙ sym (ap (λ l. (f.bytes ++ m) ++ l) behind);
  spelled = λ _ _. record { split = ap (λ l. l ++ m) (sym value); first = subst (IsFree m) (sym value) f.free };
  only = λ _ s e b q begins.
      let there : f.bytes ++ (m ++ s) ≡ b ++ (m ++ q) = sym (append_assoc f.bytes m s) ∙ begins.split
      ∙ ap (λ l. l ++ q) begins.spelled.split ∙ append_assoc b m q in
      let w = one_place m f.bytes b s q f.free begins.spelled.first there in
      (w.0 ∙ sym value, w.1);
}
  where
    ts_is : ts ≡ (f.bytes ++ m) ++ f.rest
    ts_is = f.split ∙ sym (append_assoc f.bytes m f.rest)

    value : take at ts ≡ f.bytes
    value = (λ i. take (f.is_at i) (f.split i)) ∙ take_front f.bytes (m ++ f.rest)

    place : at + length m ≡ length (f.bytes ++ m)
    place = omega (arith, f.is_at, length-append f.bytes m)

    behind : drop (at + length m) ts ≡ f.rest
    behind = (λ i. drop (place i) (ts_is i)) ∙ drop_front (f.bytes ++ m) f.rest

up_to_refused : (m : Text) (level : ℕ) (ts : Text) → IsMissing m ts → IsRefused (λ _. UpTo m) Anything level ts false 0
up_to_refused m level ts f = record {
  front = ts;
  rest = [];
  split = sym (append-nil ts);
  is_left = refl;
  viable = inr (f.more, f.bytes, record { split = f.split; first = f.free });
  dead =
      λ k bound us agrees b q begins. f.none b q (sym agrees ∙ begins.split ∙ ap (λ l. l ++ q) begins.spelled.split
      ∙ append_assoc b m q);
  beyond = λ deep. absurd (cc);
}

pub up_to_reads : (m : Text) (level : ℕ) → IsReader (λ _. UpTo m) Anything level (up_to m)
unfolding up_to cut Searched
up_to_reads m level ts = go (mark_place m ts) (searched m ts)
  where
    go : (o : Option ℕ) → Searched m ts o → Answers (λ _. UpTo m) Anything level ts (cut m o ts)
    go None f = up_to_refused m level ts f
    go (Some at) f = up_to_read m level ts at f

pub some_up_to : (m : Text) → UpTo m m []
some_up_to m = record { split = refl; first = tt }

-- ---- the first place, as a search of the needle tells it

free_behind : (m xs : Text) (b : ℕ) (ys : Text) → IsFree m (xs ++ (b ∷ ys)) → is_front_of m ((b ∷ ys) ++ m) ≡ false
free_behind m [] b ys f = f.0
free_behind m (x ∷ xs) b ys f = free_behind m xs b ys f.1

found_occurs : (m ts : Text) (at : ℕ) → IsFound m ts at → OccursAt ts m at
found_occurs m ts at f =
    OccursAt-from_part ts m at (omega (
      arith,
      f.is_at,
      ap length f.split,
      length-append f.bytes (m ++ f.rest),
      length-append m f.rest,
    ))
    (ap (take (length m)) ((λ i. drop (f.is_at i) (f.split i)) ∙ drop_front f.bytes (m ++ f.rest))
    ∙ take_front m f.rest)

-- an earlier place than the first
not_earlier : (m ts : Text) (at k : ℕ) → IsFound m ts at → OccursAt ts m k → k < at → ⊥
not_earlier m ts at k f o less = go (drop k f.bytes) refl
  where
    there : drop k ts ≡ drop k f.bytes ++ (m ++ f.rest)
    there = ap (drop k) f.split ∙ drop-append-le k f.bytes (m ++ f.rest) (omega (arith, f.is_at))

    go : (tail : Text) → drop k f.bytes ≡ tail → ⊥
    go [] is = omega (arith, ap length is, length-drop k f.bytes, f.is_at)
    go (b ∷ ys) is =
        let whole : f.bytes ≡ take k f.bytes ++ (b ∷ ys) = sym (take-append-drop k f.bytes)
        ∙ ap (λ l. take k f.bytes ++ l) is in
        let none : is_front_of m ((b ∷ ys) ++ m) ≡ false = free_behind m (take k f.bytes) b ys
        (subst (IsFree m) whole f.free) in
        let here : is_front_of m (drop k ts) ≡ true = ap (is_front_of m) (OccursAt-split ts m k o)
        ∙ stands_here m (drop (k + length m) ts) in
        let same : drop k ts ≡ ((b ∷ ys) ++ m) ++ f.rest = there ∙ ap (λ l. l ++ (m ++ f.rest)) is
        ∙ sym (append_assoc (b ∷ ys) m f.rest) in
        let more : is_front_of m ((b ∷ ys) ++ m) ≡ true = sym (stands_more m ((b ∷ ys) ++ m) f.rest (cons_long m b ys))
        ∙ ap (is_front_of m) (sym same) ∙ here in
        cc

pub place_is : (m ts : Text) (o : Option ℕ) → FindsNeedle ts m 0 o → o ≡ mark_place m ts
unfolding Searched
place_is m ts o finds = go o (mark_place m ts) (searched m ts) finds
  where
    go : (o p : Option ℕ) → Searched m ts p → FindsNeedle ts m 0 o → o ≡ p
    go None None s h = refl
    go None (Some at) f h =
        let o = found_occurs m ts at f in absurd (h at (omega arith) (let fits = o.fits in omega arith) o)
    go (Some k) None s h =
        absurd (s.none (take k ts) (drop (k + length m) ts) (sym (take-append-drop k ts)
        ∙ ap (λ l. take k ts ++ l) (OccursAt-split ts m k h.1)))
    go (Some k) (Some at) f h = same (k - at) (at - k) refl refl
      where
        same : (x y : ℕ) → k - at ≡ x → at - k ≡ y → Some k ≡ Some at
        same zero zero d e = let equal : k ≡ at = omega arith in ap Some equal
        same zero (suc y) d e = absurd (not_earlier m ts at k f h.1 (omega arith))
        same (suc x) y d e = absurd (h.0.before at (omega arith) (omega arith) (found_occurs m ts at f))
