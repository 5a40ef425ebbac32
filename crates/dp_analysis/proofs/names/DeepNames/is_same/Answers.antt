use Rattle.std.proofs.Common.{◌≡◌, ℕ, Bool, List, Decides, nat_eq, sym, subst, rules}
use Rattle.std.proofs.lemmas.Map.Lookups.{hash_set_eq_decides}
use Rattle.std.specs.Cmp.{IsEquivalence}
use Rattle.std.specs.Cmp.Lexicographic.{pointwise}
use Rattle.std.specs.Cmp.Rules.{comparing}
use Rattle.std.specs.Ordering.{on}
use Rattle.std.specs.Str.{str_to_ascii_lowercase}
use Rattle.dp_analysis.specs.Still.{is_named}
use Rattle.dp_analysis.proofs.names.DeepNames.is_same.Goals as goal

laws : IsEquivalence (on str_to_ascii_lowercase (pointwise nat_eq))
laws = search (comparing, rules)

abbrev AreOne : List (List ℕ) → List (List ℕ) → Type 0
AreOne names others = (name : List ℕ) → is_named names name ≡ is_named others name

pub returns : goal.returns
unfolding is_named
returns c =
    let s = c.self.inside.names in
    let t = c.other.inside.names in
    subst (λ (ks : List (List ℕ)). Decides c.eq.result (AreOne ks c.args.other.now)) c.self.view_is
    (subst (λ (ks : List (List ℕ)). Decides c.eq.result (AreOne s.keys ks)) c.other.view_is
    (subst (λ (b : Bool). Decides b (AreOne s.keys t.keys)) (sym c.eq.ensures) (hash_set_eq_decides laws s t)))
