-- What two have told of one thing, and what was paid of what was owed.
use Rattle.std.proofs.Common.{◌≡◌, ◌⊎◌, ℕ, ◌==◌, Bool, true, false, IsTrue, List, [], ◌∷◌, ◌++◌, length, refl, sym, ap, ◌∙◌, subst, append_assoc, append-nil, inl, inr, arith, length-append}
use Rattle.std.proofs.lemmas.Bool.{eqb-true}
use Rattle.std.proofs.lemmas.List.{append_cancel_left, nil_from_length}
use Rattle.dp_conversation.specs.Growth.{Begins}
use Rattle.dp_records.specs.inner.Balances.{AreAlike, AreApart, IsPaid, Weighs}

-- ---- apart

pub apart_swap : (one other : List ℕ) → AreApart one other → AreApart other one
apart_swap one other apart a b same = apart b a (sym same)

-- behind what is common it is the rests that are apart
apart_behind : (common one other : List ℕ) → AreApart one other → AreApart (common ++ one) (common ++ other)
apart_behind common one other apart a b same =
    apart a b (append_cancel_left common (one ++ a) (other ++ b)
    (sym (append_assoc common one a) ∙ same ∙ append_assoc common other b))

nothing_apart : (bytes : List ℕ) → AreApart [] bytes → ⊥
nothing_apart bytes apart = apart bytes [] (sym (append-nil bytes))

-- ---- alike

alike_swap : (one other ahead behind : List ℕ) → AreAlike one other ahead behind → AreAlike other one behind ahead
alike_swap one other ahead behind a =
    record { common = a.common; one = a.other; other = a.one; either = by a.either } where
      by : (ahead ≡ []) ⊎ (behind ≡ []) → (behind ≡ []) ⊎ (ahead ≡ [])
      by (inl x) = inr x
      by (inr x) = inl x

front_nil : (x y : List ℕ) → x ++ y ≡ [] → x ≡ []
front_nil [] y e = refl
front_nil (b ∷ x) y e = cc

-- the first has told no more than the second so far
paid_even : (told other ahead behind left bytes rest : List ℕ) → AreAlike told other ahead behind
    → IsPaid behind left bytes rest → ahead ≡ [] → AreAlike (told ++ bytes) other (ahead ++ rest) left
paid_even told other ahead behind left bytes rest a p none = record {
  common = a.common ++ p.common;
  one =
      ap (λ l. l ++ bytes) (a.one ∙ ap (λ l. a.common ++ l) none ∙ append-nil a.common)
      ∙ ap (λ l. a.common ++ l) p.by ∙ sym (append_assoc a.common p.common rest)
      ∙ ap (λ l. (a.common ++ p.common) ++ (l ++ rest)) (sym none);
  other = a.other ∙ ap (λ l. a.common ++ l) p.from ∙ sym (append_assoc a.common p.common left);
  either = by p.either;
} where
  by : (left ≡ []) ⊎ (rest ≡ []) → (ahead ++ rest ≡ []) ⊎ (left ≡ [])
  by (inl l) = inr l
  by (inr r) = inl (ap (λ l. l ++ rest) none ∙ r)

-- the second has told no more than the first
paid_ahead : (told other ahead behind left bytes rest : List ℕ) → AreAlike told other ahead behind
    → IsPaid behind left bytes rest → behind ≡ [] → AreAlike (told ++ bytes) other (ahead ++ rest) left
paid_ahead told other ahead behind left bytes rest a p none =
    let nothing : p.common ++ left ≡ [] = sym p.from ∙ none in
    let c : p.common ≡ [] = front_nil p.common left nothing in
    let l : left ≡ [] = ap (λ x. x ++ left) (sym c) ∙ nothing in
    let all : bytes ≡ rest = p.by ∙ ap (λ x. x ++ rest) c in
    record {
      common = a.common;
      one =
          ap (λ x. x ++ bytes) a.one ∙ append_assoc a.common ahead bytes
          ∙ ap (λ x. a.common ++ (ahead ++ x)) all;
      other = a.other ∙ ap (λ x. a.common ++ x) (none ∙ sym l);
      either = inr l;
    }

pub told_paid : (told other ahead behind left bytes rest : List ℕ) → AreAlike told other ahead behind
    → IsPaid behind left bytes rest → AreAlike (told ++ bytes) other (ahead ++ rest) left
told_paid told other ahead behind left bytes rest a p = by a.either where
  by : (ahead ≡ []) ⊎ (behind ≡ []) → AreAlike (told ++ bytes) other (ahead ++ rest) left
  by (inl none) = paid_even told other ahead behind left bytes rest a p none
  by (inr none) = paid_ahead told other ahead behind left bytes rest a p none

pub told_apart : (told other ahead behind bytes : List ℕ) → AreAlike told other ahead behind
    → AreApart behind bytes → AreApart (told ++ bytes) other
told_apart told other ahead behind bytes a apart = by a.either where
  by : (ahead ≡ []) ⊎ (behind ≡ []) → AreApart (told ++ bytes) other
  by (inl none) =
      let one : told ≡ a.common = a.one ∙ ap (λ l. a.common ++ l) none ∙ append-nil a.common in
      subst (λ (l : List ℕ). AreApart (l ++ bytes) other) (sym one)
      (subst (AreApart (a.common ++ bytes)) (sym a.other)
      (apart_behind a.common bytes behind (apart_swap behind bytes apart)))
  by (inr none) = absurd (nothing_apart bytes (subst (λ (l : List ℕ). AreApart l bytes) none apart))

-- the same where the second tells more
pub other_paid : (told other ahead behind left bytes rest : List ℕ) → AreAlike told other ahead behind
    → IsPaid ahead left bytes rest → AreAlike told (other ++ bytes) left (behind ++ rest)
other_paid told other ahead behind left bytes rest a p =
    alike_swap (other ++ bytes) told (behind ++ rest) left
    (told_paid other told behind ahead left bytes rest (alike_swap told other ahead behind a) p)

pub other_apart : (told other ahead behind bytes : List ℕ) → AreAlike told other ahead behind
    → AreApart ahead bytes → AreApart told (other ++ bytes)
other_apart told other ahead behind bytes a apart =
    apart_swap (other ++ bytes) told (told_apart other told behind ahead bytes (alike_swap told other ahead behind a)
    apart)

-- ---- what is told of both

-- the second begins the first
pub front_is : (told other ahead behind : List ℕ) → AreAlike told other ahead behind → behind ≡ [] → Begins other told
front_is told other ahead behind a none = (
  ahead,
  a.one ∙ ap (λ l. l ++ ahead) (sym (a.other ∙ ap (λ l. a.common ++ l) none ∙ append-nil a.common)),
)

pub front_only : (told other ahead behind : List ℕ) → AreAlike told other ahead behind → Begins other told
    → behind ≡ []
front_only told other ahead behind a f = by a.either where
  by : (ahead ≡ []) ⊎ (behind ≡ []) → behind ≡ []
  by (inl none) =
      let one : told ≡ a.common = a.one ∙ ap (λ l. a.common ++ l) none ∙ append-nil a.common in
      let e = ap (λ (l : List ℕ). length l) (sym one ∙ f.1) in
      let o = ap (λ (l : List ℕ). length l) a.other in
      nil_from_length behind (omega (arith, e, o, length-append other f.0, length-append a.common behind))
  by (inr none) = none

pub never_front : (told other : List ℕ) → AreApart told other → Begins other told → ⊥
never_front told other apart f = apart [] f.0 (append-nil told ∙ f.1)

pub even_is : (told other ahead behind : List ℕ) → AreAlike told other ahead behind → behind ≡ [] → ahead ≡ []
    → other ≡ told
even_is told other ahead behind a none never =
    a.other ∙ ap (λ l. a.common ++ l) (none ∙ sym never) ∙ sym a.one

pub even_only : (told other ahead behind : List ℕ) → AreAlike told other ahead behind → other ≡ told
    → (behind ≡ []) × (ahead ≡ [])
even_only told other ahead behind a same = (
  front_only told other ahead behind a ([], sym same ∙ sym (append-nil other)),
  front_only other told behind ahead (alike_swap told other ahead behind a) ([], same ∙ sym (append-nil told)),
)

-- ---- what the functions answer

empty_is : (bytes : List ℕ) → (length bytes == 0) ≡ true → bytes ≡ []
empty_is bytes none = nil_from_length bytes (eqb-true (length bytes) 0 none)

pub front_iff : (t : Bool) (told other ahead behind : List ℕ) → AreAlike told other ahead behind
    → t ≡ (length behind == 0) → (IsTrue t → Begins other told) × (Begins other told → IsTrue t)
front_iff t told other ahead behind a is = (
  λ yes. front_is told other ahead behind a (empty_is behind (sym is ∙ yes)),
  λ front. is ∙ ap (λ (l : List ℕ). length l == 0) (front_only told other ahead behind a front),
)

pub even_iff : (t : Bool) (told other ahead behind : List ℕ) → AreAlike told other ahead behind
    → (length behind == 0) ≡ true → t ≡ (length ahead == 0) → (IsTrue t → other ≡ told) × (other ≡ told → IsTrue t)
even_iff t told other ahead behind a none is = (
  λ yes. even_is told other ahead behind a (empty_is behind none) (empty_is ahead (sym is ∙ yes)),
  λ same. is ∙ ap (λ (l : List ℕ). length l == 0) (even_only told other ahead behind a same).1,
)

pub uneven : (told other ahead behind : List ℕ) → AreAlike told other ahead behind → (length behind == 0) ≡ false
    → other ≡ told → ⊥
uneven told other ahead behind a some same =
    let none = ap (λ (l : List ℕ). length l == 0) (even_only told other ahead behind a same).0 in
    absurd (cc)

pub apart_not : (told other : List ℕ) → AreApart told other → other ≡ told → ⊥
apart_not told other apart same = never_front told other apart ([], sym same ∙ sym (append-nil other))

-- the session tells more, or the record does
pub session_paid : (same : Bool) (told other ahead behind left bytes rest owed : List ℕ) → same ≡ true
    → Weighs same ahead behind told other → IsPaid behind left bytes rest → owed ≡ ahead ++ rest
    → Weighs same owed left (told ++ bytes) other
session_paid false told other ahead behind left bytes rest owed is w p o = absurd (cc)
session_paid true told other ahead behind left bytes rest owed is w p o =
    subst (λ (l : List ℕ). AreAlike (told ++ bytes) other l left) (sym o)
    (told_paid told other ahead behind left bytes rest w p)

pub record_paid : (same : Bool) (told other ahead behind left bytes rest owed : List ℕ) → same ≡ true
    → Weighs same ahead behind told other → IsPaid ahead left bytes rest → owed ≡ behind ++ rest
    → Weighs same left owed told (other ++ bytes)
record_paid false told other ahead behind left bytes rest owed is w p o = absurd (cc)
record_paid true told other ahead behind left bytes rest owed is w p o =
    subst (λ (l : List ℕ). AreAlike told (other ++ bytes) left l) (sym o)
    (other_paid told other ahead behind left bytes rest w p)
