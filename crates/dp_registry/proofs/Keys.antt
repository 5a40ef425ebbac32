-- Tables by keys.
use Rattle.std.proofs.Common.{Result, Ok, Err, OnErr, ◌≡◌, ◌==◌, ℕ, Bool, true, false, cond, List, [], ◌∷◌, length}
use Rattle.std.proofs.Common.{Option, Some, None, unwrap_or, refl, sym, ap, subst, ◌∙◌, arith}
use Rattle.std.proofs.lemmas.Bool.Decides.{Decides-eqb, nat_tests}
use Rattle.std.proofs.lemmas.Slice.Eq.{slice_eq-Decides}
use Rattle.std.proofs.lemmas.Option.{same_Some}
use Rattle.std.specs.Map.{lookup, set_value}
use Rattle.std.specs.Str.{bytes_eq}
use Rattle.dp_registry.specs.inner.Tables.{sessions_of}

pub same_key : (a b : List ℕ) → bytes_eq a b ≡ true → a ≡ b
same_key a b h = (slice_eq-Decides Decides-eqb a b _ refl).0 h

pub itself : (a : List ℕ) → bytes_eq a a ≡ true
itself a = (slice_eq-Decides Decides-eqb a a _ refl).1 refl

module _ {X : Type 0} (test : List ℕ → Bool) (w : X) where
  set_same-more : (e : List ℕ × X) (es : List (List ℕ × X)) (b : Bool) → test e.0 ≡ b → (lookup test es ≡ Some w →
      set_value test es w ≡ es) →
      lookup test (e ∷ es) ≡ Some w → set_value test (e ∷ es) w ≡ e ∷ es
  set_same-more e es true h rest found = rw h (ap (λ (x : X). let p : List ℕ × X = (e.0, x) in
      p ∷ es) (sym (same_Some e.1 w (rw h at found))))
  set_same-more e es false h rest found = rw h (ap (λ fs. e ∷ fs) (rest (rw h at found)))

  -- the value that is there changes nothing
  pub set_same : (es : List (List ℕ × X)) → lookup test es ≡ Some w → set_value test es w ≡ es
  set_same [] found = cc
  set_same (e ∷ es) found = set_same-more e es (test e.0) refl (set_same es) found

nothing : (ns : List ℕ) → (length ns == 0) ≡ true → ns ≡ []
nothing [] h = refl
nothing (n ∷ ns) h = let none : length (n ∷ ns) ≡ 0 = grind (arith, nat_tests) in absurd (omega arith)

-- a key without sessions may go
pub emptied : (key other : List ℕ) (old new : List (List ℕ × List ℕ)) → (length (sessions_of old key) == 0) ≡ true →
    lookup (bytes_eq other) new ≡ cond (bytes_eq key other) None (lookup (bytes_eq other) old) →
    sessions_of new other ≡ sessions_of old other
emptied key other old new none now = by (bytes_eq key other) refl
  where
    by : (b : Bool) → bytes_eq key other ≡ b → sessions_of new other ≡ sessions_of old other
    by true e =
        let gone : lookup (bytes_eq other) new ≡ None = rw e at now in
        ap (λ (o : Option (List ℕ)). unwrap_or o []) gone
        ∙ sym (nothing (sessions_of old other) (subst (λ (k : List ℕ). (length (sessions_of old k) == 0) ≡ true)
        (same_key key other e) none))
    by false e =
        let kept : lookup (bytes_eq other) new ≡ lookup (bytes_eq other) old = rw e at now in
        ap (λ (o : Option (List ℕ)). unwrap_or o []) kept

pub on_err : {X E : Type 0} {P Q : Type 0} (r : Result X E) → OnErr r P → (P → Q) → OnErr r Q
on_err (Ok x) h f = tt
on_err (Err e) h f = f h
