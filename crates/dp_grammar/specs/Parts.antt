-- Grammars whose parts are told by their values: which symbols a part may be.
use Rattle.std.specs.Prelude.{◌≡◌, Bool, true, false, List, [], ◌∷◌, ◌++◌}
use Rattle.std.specs.List.{AllByRecursion}

abbrev pub Part : Type 0 → Type 1
Part T = List T → Type 0

-- the one part and then the other
pub record Joined {T : Type 0} (first_part second_part : List T → Type 0) (text : List T)
    : Type 0 where
  pub front : List T
  pub back : List T
  pub whole : text ≡ front ++ back
  pub first : first_part front
  pub second : second_part back

infixr 20 ◌>>◌
abbrev pub ◌>>◌ : {T : Type 0} → Part T → Part T → Part T
a >> b = Joined a b

-- these symbols themselves
abbrev pub Mark : {T : Type 0} → List T → Part T
Mark mark text = text ≡ mark

-- so many parts, one behind the other
abbrev pub Repeated : {T A : Type 0} → (A → List T → Type 0) → List A → Part T
Repeated part [] = Mark []
Repeated part (a ∷ more) = part a >> Repeated part more

-- whether there is a first symbol, of this sort
abbrev pub begins : {T : Type 0} → (T → Bool) → List T → Bool
begins sort [] = false
begins sort (b ∷ t) = sort b

-- each symbol is of this sort
abbrev pub Each : {T : Type 0} → (T → Bool) → List T → Type 0
Each sort text = AllByRecursion (λ b. sort b ≡ true) text
