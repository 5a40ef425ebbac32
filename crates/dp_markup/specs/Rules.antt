-- What the rules of the grammar of markup are made of: those of dp_grammar, over bytes.
use Rattle.std.specs.Prelude.{◌==◌, ℕ, List, [], ◌∷◌}
use Rattle.dp_grammar.specs.Rules as grammar
pub use Rattle.dp_grammar.specs.Rules.{
  Joined,
  ◌>>=◌,
  ◌>>◌,
  ◌or◌,
  Gives,
  Made,
  One,
  passing,
  Tested,
  When,
  Chain,
  Closed,
  Step,
}

abbrev pub Rule : Type 0 → Type 1
Rule A = grammar.Rule ℕ A

-- this byte
abbrev pub Mark : ℕ → Rule ℕ
Mark c = One (passing (λ b. b == c))

-- these bytes
abbrev pub Word : List ℕ → Rule (Unit {0})
Word [] = Gives tt
Word (c ∷ cs) = Mark c >> Word cs
