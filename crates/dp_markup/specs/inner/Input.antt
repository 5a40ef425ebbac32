-- How the functions that read bytes go: the steps of dp_grammar, and a byte and a word.
use Rattle.std.specs.Prelude.{ℕ, ◌==◌, List, [], ◌∷◌}
use Rattle.dp_grammar.specs.inner.Input as grammar
use Rattle.dp_markup.specs.Rules.{passing}
pub use Rattle.dp_grammar.specs.Rules.{head}
pub use Rattle.dp_grammar.specs.inner.Input.{
  next,
  and_then,
  ◌>>=◌,
  ◌>>◌,
  gives,
  made,
  met,
  one,
  tested,
  next_of,
  closed,
  Reads,
  ReadsSlice,
}
unfoldable pub use Rattle.dp_grammar.specs.inner.Input.{refuse, until}

-- a value and the bytes behind it, or a refusal
abbrev pub Outcome : Type 0 → Type 0
Outcome A = grammar.Outcome ℕ A

abbrev pub Reader : Type 0 → Type 0
Reader A = grammar.Reader ℕ A

abbrev pub mark : ℕ → Reader ℕ
mark c = one (passing (λ b. b == c))

unfoldable pub word : List ℕ → Reader (Unit {0})
word [] = gives tt
word (c ∷ cs) = mark c >> word cs
