-- Names that are looked up among attributes.
use Rattle.std.proofs.Common.{◌≡◌, ℕ, Bool, true, false, cond, not, ◌&&◌, ◌||◌, ◌==◌, List, [], ◌∷◌, ◌++◌, Some, is_none, refl, ap, ◌∙◌, arith}
use Rattle.std.specs.List.{list_any}
use Rattle.std.specs.Str.{bytes_eq}
use Rattle.std.specs.Map.{lookup}
use Rattle.dp_markup.specs.Grammar.{Text, same_text}
use Rattle.indexmap.specs.IndexMap.{insert_entry}

eqb-sym : (a b : ℕ) → (a == b) ≡ (b == a)
eqb-sym a b = grind arith

same_way : (a b : Text) → bytes_eq a b ≡ same_text b a
same_way [] [] = refl
same_way [] (c ∷ cs) = refl
same_way (b ∷ bs) [] = refl
same_way (b ∷ bs) (c ∷ cs) = ap (λ x. x && bytes_eq bs cs) (eqb-sym b c) ∙ ap (λ x. (c == b) && x) (same_way bs cs)

-- whether none of these has the name
abbrev lacks : {V : Type 0} → List (Text × V) → Text → Bool
lacks found name = not (list_any (λ a. same_text a.0 name) found)

pub not_found : {V : Type 0} (found : List (Text × V)) (name : Text)
    → is_none (lookup (bytes_eq name) found) ≡ lacks found name
not_found [] name = refl
not_found (a ∷ found) name = go (bytes_eq name a.0) (same_way name a.0) (not_found found name)
  where
    go : (t : Bool) → t ≡ same_text a.0 name → is_none (lookup (bytes_eq name) found) ≡ lacks found name
        → is_none (cond t (Some a.1) (lookup (bytes_eq name) found)) ≡ not
        (same_text a.0 name || list_any (λ x. same_text x.0 name) found)
    go true e more = ap (λ b. not (b || list_any (λ x. same_text x.0 name) found)) e
    go false e more = more ∙ ap (λ b. not (b || list_any (λ x. same_text x.0 name) found)) e

pub behind : {V : Type 0} (found : List (Text × V)) (name : Text) (value : V) → lacks found name ≡ true
    → insert_entry bytes_eq found name value ≡ found ++ (name, value) ∷ []
behind [] name value new = refl
behind (a ∷ found) name value new = go (bytes_eq name a.0) (same_way name a.0) (behind found name value)
  where
    go : (t : Bool) → t ≡ same_text a.0 name
        → (lacks found name ≡ true → insert_entry bytes_eq found name value ≡ found ++ (name, value) ∷ [])
        → cond t ((a.0, value) ∷ found) (a ∷ insert_entry bytes_eq found name value) ≡ a ∷ (found ++ (name, value) ∷ [])
    go true e more = cc (ap (λ b. not (b || list_any (λ x. same_text x.0 name) found)) e, new)
    go false e more = ap (λ l. a ∷ l) (more (ap (λ b. not (b || list_any (λ x. same_text x.0 name) found)) e ∙ new))
