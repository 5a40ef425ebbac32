-- What it means that a reader reads a rule that nests: all that it may answer, in its words.
use Rattle.std.specs.Prelude.{◌≡◌, ℕ, ◌-◌, ◌<◌, ◌≤◌, List, [], ◌∷◌, ◌++◌, length, Ok, Err, ⊤}
use Rattle.dp_lexer.specs.declared.token.Token.{Token}
use Rattle.dp_expressions.specs.declared.operand.Part.{Part}
use Rattle.dp_expressions.specs.declared.operand.Part.TheVariants as part
use Rattle.dp_grammar.specs.declared.refusal.Refusal.TheVariants.{Unexpected, TooDeep, Memory}
use Rattle.dp_tree.specs.declared.tree.Expression.{Expression}
use Rattle.dp_token_rules.specs.declared.terminal.Terminal.TheVariants.{Of}
use Rattle.dp_lexer.specs.declared.token.Word.TheVariants as word
use Rattle.dp_token_rules.specs.Terminals.{head}
use Rattle.dp_token_rules.specs.Rules.{Rule}
use Rattle.dp_token_rules.specs.Refused.{IsViable, IsUnexpected, IsTooDeep}
use Rattle.dp_token_rules.specs.inner.Input.{Outcome}
use Rattle.dp_expressions.specs.Grammar.{inner, IsExpression, CoalesceRule, OperandRule, Index}

-- `rule level` is what is spelled with at most so many levels of nesting
module _ {A : Type 0} (rule : ℕ → Rule A) where
  -- The tokens begin with a text that is spelled, for this value, before this rest. However deep it
  -- nests, the text has no other value, and with the token behind it it begins nothing spelled.
  pub record IsLongest (level : ℕ) (ts : List Token) (a : A) (rest : List Token) : Type 0 where
    pub text : List Token
    pub split : ts ≡ text ++ rest
    pub spelled : rule level text a
    pub only : (depth : ℕ) (b : A) → rule depth text b → b ≡ a
    pub ends : (depth : ℕ) (next : Token) (more : List Token) → rest ≡ next ∷ more
        → IsViable rule depth (text ++ next ∷ []) → ⊥

  -- What is answered is the longest text; or a token is refused, named by how many tokens are left,
  -- with which nothing is spelled: however deep it nests, or within this level alone.
  abbrev pub IsReadBy : ℕ → List Token → Outcome A → Type 0
  IsReadBy level ts (Ok x) = IsLongest level ts x.0 x.1
  IsReadBy level ts (Err (Unexpected left)) =
      (left ≤ length ts) × IsUnexpected rule level ts (length ts - left)
  IsReadBy level ts (Err (TooDeep left)) =
      (left ≤ length ts) × IsTooDeep rule level ts (length ts - left)
  IsReadBy level ts (Err Memory) = ⊥

-- the rule of each part
abbrev pub rule_of : Part → ℕ → Rule Expression
rule_of part.Whole level = IsExpression level
rule_of part.Coalesce level = CoalesceRule level (inner level)
rule_of part.Alone level = OperandRule level (inner level)
rule_of part.Index level = Index level (inner level)

-- where it may be read: an index only at its bracket, where a level is left
abbrev pub may_read : Part → ℕ → List Token → Type 0
may_read part.Whole level ts = ⊤
may_read part.Coalesce level ts = ⊤
may_read part.Alone level ts = ⊤
may_read part.Index level ts = (0 < level) × (head ts ≡ (Of word.OpenBracket))
