-- What it means that a reader reads a rule of one symbol: all that it may answer, in the rule's
-- words.
use Rattle.std.specs.Prelude.{◌≡◌, List, ◌++◌, length, Ok, Err}
use Rattle.dp_grammar.specs.declared.refusal.Refusal.TheVariants.{Unexpected}
use Rattle.dp_grammar.specs.Rules.{Rule}
use Rattle.dp_grammar.specs.inner.Input.{Outcome}

-- the symbols begin with what the rule spells, for this value, before this rest
pub record IsHead {T A : Type 0} (rule : Rule T A) (ts : List T) (a : A) (rest : List T)
    : Type 0 where
  pub front : List T
  pub split : ts ≡ front ++ rest
  pub spelled : rule front a

-- The one value and rest that there are; or the next symbol is refused, and there are none.
abbrev pub IsExact : {T A : Type 0} → Rule T A → List T → Outcome T A → Type 0
IsExact {T = T} {A = A} rule ts (Ok x) =
    IsHead rule ts x.0 x.1
    × ((a : A) (rest : List T) → IsHead rule ts a rest → (a ≡ x.0) × (rest ≡ x.1))
IsExact {T = T} {A = A} rule ts (Err e) =
    (e ≡ Unexpected (length ts)) × ((a : A) (rest : List T) → IsHead rule ts a rest → ⊥)
