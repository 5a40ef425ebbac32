-- Variables in two lists: the first rows of one, and another one behind them.
use Rattle.std.proofs.Common.{◌≡◌, ℕ, zero, suc, ◌-◌, Bool, false, List, [], ◌∷◌, ◌++◌, get_or, take, remove, set, position, Some, None, refl, sym, ap, ◌∙◌, subst, arith, append-nil}
use Rattle.std.specs.List.{IsDistinct}
use Rattle.std.specs.Map.{keys_of}
use Rattle.std.specs.Str.{bytes_eq}
use Rattle.std.proofs.lemmas.Map.Keys.{IsDistinct-cons, IsDistinct-head, IsDistinct-tail}
use Rattle.dp_value.specs.declared.key.Key.TheVariants.{Text}
use Rattle.dp_value.specs.Place.{IsAbsent, IsFirst}
use Rattle.dp_value.proofs.KeyLemmas.{key_eq_equivalence}
use Rattle.dp_value.proofs.PairLemmas.{by_test}
use Rattle.dp_state.specs.declared.vars.Slot.{Slot}
use Rattle.dp_state.specs.Variables.{Variables, slot_of, with_slot, without}
use Rattle.dp_state.proofs.Fronts.{position-absent, position-first}

module _ (name : List ℕ) where
  abbrev test : List ℕ × Slot → Bool
  test e = bytes_eq name e.0

  -- ---- names stay distinct
  module _ (w : Slot) where
    apart-with_slot : (k : List ℕ) → bytes_eq k name ≡ false → (es : Variables) → IsAbsent (bytes_eq k) (keys_of es)
        → IsAbsent (bytes_eq k) (keys_of (with_slot es name w))
    apart-with_slot k other =
        by_test test _ (λ all. (other, tt)) (λ e es h rest all. rw h all) (λ e es h rest all. rw h (all.0, rest all.1))

    set-distinct : (es : Variables) → IsDistinct bytes_eq (keys_of es)
        → IsDistinct bytes_eq (keys_of (with_slot es name w))
    set-distinct =
        by_test test _ (λ is. IsDistinct-cons bytes_eq name [] tt is) (λ e es h rest is. rw h is)
        (λ e es h rest is. rw h (IsDistinct-cons bytes_eq e.0 (keys_of (with_slot es name w))
        (apart-with_slot e.0 (key_eq_equivalence.symm (Text e.0) (Text name) ∙ h) es
        (IsDistinct-head bytes_eq e.0 (keys_of es) is))
        (rest (IsDistinct-tail bytes_eq e.0 (keys_of es) is))))

    pub distinct-with_slot : (ds es fs : Variables) → ds ≡ es → fs ≡ with_slot es name w
        → IsDistinct bytes_eq (keys_of ds) → IsDistinct bytes_eq (keys_of fs)
    distinct-with_slot ds es fs seen same is =
        subst (λ (x : Variables). IsDistinct bytes_eq (keys_of x))
        (ap (λ (x : Variables). with_slot x name w) seen ∙ sym same) (set-distinct ds is)

  apart-without : (k : List ℕ) (es : Variables) → IsAbsent (bytes_eq k) (keys_of es)
      → IsAbsent (bytes_eq k) (keys_of (without es name))
  apart-without k =
      by_test test _ (λ all. all) (λ e es h rest all. rw h all.1) (λ e es h rest all. rw h (all.0, rest all.1))

  removed-distinct : (es : Variables) → IsDistinct bytes_eq (keys_of es)
      → IsDistinct bytes_eq (keys_of (without es name))
  removed-distinct =
      by_test test _ (λ is. is) (λ e es h rest is. rw h (IsDistinct-tail bytes_eq e.0 (keys_of es) is))
      (λ e es h rest is. rw h (IsDistinct-cons bytes_eq e.0 (keys_of (without es name))
      (apart-without e.0 es (IsDistinct-head bytes_eq e.0 (keys_of es) is))
      (rest (IsDistinct-tail bytes_eq e.0 (keys_of es) is))))

  pub distinct-without : (ds es fs : Variables) → ds ≡ es → fs ≡ without es name → IsDistinct bytes_eq (keys_of ds)
      → IsDistinct bytes_eq (keys_of fs)
  distinct-without ds es fs seen same is =
      subst (λ (x : Variables). IsDistinct bytes_eq (keys_of x))
      (ap (λ (x : Variables). without x name) seen ∙ sym same) (removed-distinct ds is)

  -- ---- a name that none of those in front has
  absent-front : (ys xs : Variables) → slot_of (xs ++ ys) name ≡ None → IsAbsent test xs
  absent-front ys =
      by_test test _ (λ missing. tt)
      (λ e es h rest missing. let there : Some e.1 ≡ None = rw h at missing in absurd cc)
      (λ e es h rest missing. (h, rest (rw h at missing)))

  slot-behind : (xs ys : Variables) → IsAbsent test xs → slot_of ys name ≡ slot_of (xs ++ ys) name
  slot-behind [] ys absent = refl
  slot-behind (x ∷ xs) ys absent = rw absent.0 (slot-behind xs ys absent.1)

  with_slot-behind : (w : Slot) (xs ys : Variables) → IsAbsent test xs
      → xs ++ with_slot ys name w ≡ with_slot (xs ++ ys) name w
  with_slot-behind w [] ys absent = refl
  with_slot-behind w (x ∷ xs) ys absent =
      rw absent.0 (ap (λ (es : Variables). x ∷ es) (with_slot-behind w xs ys absent.1))

  without-behind : (xs ys : Variables) → IsAbsent test xs → xs ++ without ys name ≡ without (xs ++ ys) name
  without-behind [] ys absent = refl
  without-behind (x ∷ xs) ys absent =
      rw absent.0 (ap (λ (es : Variables). x ∷ es) (without-behind xs ys absent.1))

  -- ---- a name that one of those in front has
  slot-front : (d : List ℕ × Slot) (u i : ℕ) (rows ys : Variables) → IsFirst test (take u rows) i
      → Some (get_or rows i d).1 ≡ slot_of (take u rows ++ ys) name
  slot-front d zero i rows ys first = absurd first
  slot-front d (suc u) i [] ys first = absurd first
  slot-front d (suc u) zero (x ∷ xs) ys first = rw first refl
  slot-front d (suc u) (suc i) (x ∷ xs) ys first = rw first.0 (slot-front d u i xs ys first.1)

  with_slot-front : (w : Slot) (d : List ℕ × Slot) (u i : ℕ) (rows ys : Variables) → IsFirst test (take u rows) i
      → take u (set rows i ((get_or rows i d).0, w)) ++ ys ≡ with_slot (take u rows ++ ys) name w
  with_slot-front w d zero i rows ys first = absurd first
  with_slot-front w d (suc u) i [] ys first = absurd first
  with_slot-front w d (suc u) zero (x ∷ xs) ys first = rw first refl
  with_slot-front w d (suc u) (suc i) (x ∷ xs) ys first =
      rw first.0 (ap (λ (es : Variables). x ∷ es) (with_slot-front w d u i xs ys first.1))

  without-front : (u i : ℕ) (rows ys : Variables) → IsFirst test (take (suc u) rows) i
      → take u (remove rows i) ++ ys ≡ without (take (suc u) rows ++ ys) name
  without-front u i [] ys first = absurd first
  without-front u zero (x ∷ xs) ys first = rw first refl
  without-front zero (suc i) (x ∷ xs) ys first = absurd first.1
  without-front (suc u) (suc i) (x ∷ xs) ys first =
      rw first.0 (ap (λ (es : Variables). x ∷ es) (without-front u i xs ys first.1))

  without-front_less : (u i : ℕ) (rows ys : Variables) → IsFirst test (take u rows) i
      → take (u - 1) (remove rows i) ++ ys ≡ without (take u rows ++ ys) name
  without-front_less zero i rows ys first = absurd first
  without-front_less (suc u) i rows ys first =
      let less : suc u - 1 ≡ u = omega arith in rw less (without-front u i rows ys first)

  -- ---- those in front and those behind them, as they are seen
  module _ (u : ℕ) (rows ys es : Variables) (seen : take u rows ++ ys ≡ es) where
    module _ (far : Variables) (same : far ≡ ys) where
      pub far-seen : take u rows ++ far ≡ es
      far-seen = ap (λ (x : Variables). take u rows ++ x) same ∙ seen

      -- a new name goes last
      pub new-set : slot_of es name ≡ None → (w : Slot) (zs : Variables) → zs ≡ with_slot far name w
          → take u rows ++ zs ≡ with_slot es name w
      new-set missing w zs is =
          ap (λ (x : Variables). take u rows ++ x) is
          ∙ with_slot-behind w (take u rows) far
          (absent-front far (take u rows) (ap (λ (x : Variables). slot_of x name) far-seen ∙ missing))
          ∙ ap (λ (x : Variables). with_slot x name w) far-seen

    -- by the position among those in front
    module _ (ds : Variables) (own : ds ≡ rows) where
      module _ (i : ℕ) (at : Some i ≡ position test (take u ds)) where
        first : IsFirst test (take u rows) i
        first =
            position-first test (take u rows) i (at ∙ ap (λ (x : Variables). position test (take u x)) own)

        pub near-slot : (d : List ℕ × Slot) → d ≡ get_or rows i d → Some d.1 ≡ slot_of es name
        near-slot d is =
            ap (λ (e : List ℕ × Slot). Some e.1) is
            ∙ slot-front d u i rows ys first
            ∙ ap (λ (x : Variables). slot_of x name) seen

        pub near-set : (d : List ℕ × Slot) → d ≡ get_or rows i d → (w : Slot)
            → take u (set rows i (d.0, w)) ++ ys ≡ with_slot es name w
        near-set d is w =
            ap (λ (e : List ℕ × Slot). take u (set rows i (e.0, w)) ++ ys) is
            ∙ with_slot-front w d u i rows ys first
            ∙ ap (λ (x : Variables). with_slot x name w) seen

        pub near-without : (left : Variables) → left ≡ remove rows i → take (u - 1) left ++ ys ≡ without es name
        near-without left is =
            ap (λ (x : Variables). take (u - 1) x ++ ys) is
            ∙ without-front_less u i rows ys first
            ∙ ap (λ (x : Variables). without x name) seen

      module _ (none : None ≡ position test (take u ds)) (far : Variables) (same : far ≡ ys) where
        absent : IsAbsent test (take u rows)
        absent = position-absent test (take u rows) (none ∙ ap (λ (x : Variables). position test (take u x)) own)

        pub far-slot : slot_of far name ≡ slot_of es name
        far-slot =
            slot-behind (take u rows) far absent ∙ ap (λ (x : Variables). slot_of x name) (far-seen far same)

        pub far-set : (w : Slot) → take u rows ++ with_slot far name w ≡ with_slot es name w
        far-set w =
            with_slot-behind w (take u rows) far absent
            ∙ ap (λ (x : Variables). with_slot x name w) (far-seen far same)

        pub far-without : (left : Variables) → left ≡ without far name → take u rows ++ left ≡ without es name
        far-without left is =
            ap (λ (x : Variables). take u rows ++ x) is
            ∙ without-behind (take u rows) far absent
            ∙ ap (λ (x : Variables). without x name) (far-seen far same)

  pub next-set : (u : ℕ) (rows es : Variables) → take u rows ++ [] ≡ es → slot_of es name ≡ None → (w : Slot)
      (zs : Variables) → zs ≡ take u rows ++ (name, w) ∷ [] → zs ++ [] ≡ with_slot es name w
  next-set u rows es seen missing w zs is =
      append-nil zs ∙ is ∙ new-set u rows [] es seen [] refl missing w ((name, w) ∷ []) refl
