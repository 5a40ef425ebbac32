-- What is asked of a function value that reads: that it may be called, and that it has the answer
-- of a reader.
use Rattle.std.specs.Prelude.{ℕ, ◌-◌, ◌<◌, List, Result}
use Rattle.std.specs.declared.alloc.Global.{Global}
use denote.Ref.{MutBor}
use Rattle.dp_lexer.specs.declared.token.Token.{Token}
use Rattle.dp_expressions.specs.declared.operand.Part.{Part}
use Rattle.dp_grammar.specs.declared.refusal.Refusal.{Refusal}
use Rattle.dp_tree.specs.declared.tree.Expression.{Expression}
use Rattle.dp_token_rules.specs.inner.Input.{Reads}
use Rattle.dp_expressions.specs.inner.Readers.{below}

-- parts of expressions one level down, where a level is left
pub record ReadsInside (level : ℕ) (pre : Global → MutBor (List Token) → ℕ → Part → Type 0)
    (post : Global → MutBor (List Token) → ℕ → Part → Result Expression Refusal
    → MutBor (List Token) → Type 0) : Type 0 where
  pub callable : (alloc : Global) (old : MutBor (List Token)) (part : Part)
      → 0 < level → pre alloc old (level - 1) part
  pub reads : (alloc : Global) (old new : MutBor (List Token)) (part : Part)
      (r : Result Expression Refusal) → 0 < level → post alloc old (level - 1) part r new
      → Reads (below level part old.now) r new.now
