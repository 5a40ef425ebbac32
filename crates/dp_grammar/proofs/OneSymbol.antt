-- A reader of one symbol reads exactly the rule of that symbol.
use Rattle.std.proofs.Common.{◌≡◌, List, [], ◌∷◌, ◌++◌, Option, Some, None, refl, ap, ◌∙◌}
use Rattle.dp_grammar.specs.Rules.{One}
use Rattle.dp_grammar.specs.Exact.{IsHead, IsExact}
use Rattle.dp_grammar.specs.inner.Input.{met, one}

module _ {T A : Type 0} (worth : T → Option A) where
  no_head : (a : A) (rest : List T) → IsHead (One worth) [] a rest → ⊥
  no_head a rest h = let same : [] ≡ h.spelled.symbol ∷ rest = h.split ∙ ap (λ l. l ++ rest) h.spelled.alone in cc

  -- the symbol that is spelled is the first
  first : (t : T) (ts : List T) (a : A) (rest : List T) → IsHead (One worth) (t ∷ ts) a rest
      → (worth t ≡ Some a) × (rest ≡ ts)
  first t ts a rest h =
      let same : t ∷ ts ≡ h.spelled.symbol ∷ rest = h.split ∙ ap (λ l. l ++ rest) h.spelled.alone in
      let token : t ≡ h.spelled.symbol = cc in
      (ap worth token ∙ h.spelled.is_worth, cc)

  pub one_exact : (ts : List T) → IsExact (One worth) ts (one worth ts)
  one_exact [] = (refl, no_head)
  one_exact (t ∷ ts) = go (worth t) refl
    where
      none : (a : A) → worth t ≡ None → worth t ≡ Some a → ⊥
      none a e f = cc

      same : (a b : A) → worth t ≡ Some a → worth t ≡ Some b → b ≡ a
      same a b e f = cc

      go : (o : Option A) → worth t ≡ o → IsExact (One worth) (t ∷ ts) (met o t ts)
      go None e = (refl, λ a rest h. none a e (first t ts a rest h).0)
      go (Some a) e = (
        record { front = t ∷ []; split = refl; spelled = record { symbol = t; alone = refl; is_worth = e } },
        λ b rest h. (let f = first t ts b rest h in (same a b e f.0, f.1)),
      )
