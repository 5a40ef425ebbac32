-- A breakpoint by its id.
use Rattle.std.proofs.Common.{◌≡◌, ℕ, ◌+◌, ◌<◌, ◌==◌, Bool, true, false, cond, List, [], ◌∷◌, map, Some, refl, sym, ap, subst, ◌∙◌, arith}
use Rattle.std.specs.Prelude.{All}
use Rattle.std.proofs.lemmas.Bool.{eqb-true, ne_eqb}
use Rattle.std.proofs.lemmas.List.Elements.{All-head, All-tail}
use Rattle.dp_break.specs.declared.breakpoint.Breakpoint.{Breakpoint}
use Rattle.dp_break.specs.Changes.{held_as}
use Rattle.dp_break.specs.Tables.{Ascend}

module _ (id : ℕ) where
  -- what is known of all is known of one that was found
  pub found_all : (P : Breakpoint → Type 0) (held : List Breakpoint) (b : Breakpoint) → All P held
      → held_as held id ≡ Some b → P b
  found_all P [] b all e = absurd cc
  found_all P (x ∷ held) b all e = cases (x.id == id) e (found_all P held b (All-tail P x held all)) where
    cases : (t : Bool) → cond t (Some x) (held_as held id) ≡ Some b → (held_as held id ≡ Some b → P b) → P b
    cases true f later = let same : x ≡ b = cc in subst P same (All-head P x held all)
    cases false f later = later f

  -- ---- changes

  abbrev pub with_changed : (Breakpoint → Breakpoint) → List Breakpoint → List Breakpoint
  with_changed change held = map (λ b. cond (b.id == id) (change b) b) held

  -- all ids are greater
  changed_none : (change : Breakpoint → Breakpoint) (least : ℕ) (held : List Breakpoint) (next : ℕ) → id < least
      → Ascend least held next → with_changed change held ≡ held
  changed_none change least [] next below a = refl
  changed_none change least (b ∷ held) next below a =
      let le = a.0 in
      let other : (b.id == id) ≡ false = ne_eqb b.id id (λ e. omega arith) in
      (λ i. cond (other i) (change b) b ∷ changed_none change (b.id + 1) held next (omega arith) a.1 i)

  -- two changes are one where they are of the breakpoint that is found
  pub same_changed : (f g : Breakpoint → Breakpoint) (least : ℕ) (held : List Breakpoint) (next : ℕ)
      → Ascend least held next → ((b : Breakpoint) → held_as held id ≡ Some b → f b ≡ g b)
      → with_changed f held ≡ with_changed g held
  same_changed f g least [] next a same = refl
  same_changed f g least (b ∷ held) next a same =
      cases (b.id == id) refl same (same_changed f g (b.id + 1) held next a.1) where
        cases : (t : Bool) → (b.id == id) ≡ t
            → ((x : Breakpoint) → cond t (Some b) (held_as held id) ≡ Some x → f x ≡ g x)
            → (((x : Breakpoint) → held_as held id ≡ Some x → f x ≡ g x) → with_changed f held ≡ with_changed g held)
            → cond t (f b) b ∷ with_changed f held ≡ cond t (g b) b ∷ with_changed g held
        cases true is here more =
            let at = eqb-true b.id id is in
            let none = λ (change : Breakpoint → Breakpoint). changed_none change (b.id + 1) held next (omega arith) a.1
            in
            (λ i. here b refl i ∷ (none f ∙ sym (none g)) i)
        cases false is here more = ap (λ l. b ∷ l) (more here)
