-- What is asked of a function value that reads a body one level down.
use Rattle.std.specs.Prelude.{ℕ, ◌+◌, ◌-◌, ◌<◌, ◌≤◌, List, Result}
use Rattle.std.specs.declared.alloc.Global.{Global}
use denote.Ref.{MutBor}
use Rattle.dp_lexer.specs.declared.token.Token.{Token}
use Rattle.dp_parse.specs.declared.ended.Body.{Body}
use Rattle.dp_grammar.specs.declared.refusal.Refusal.{Refusal}
use Rattle.dp_token_rules.specs.inner.Input.{Reads}
use Rattle.dp_parse.specs.inner.Within.{body}

-- Where a level of bodies is left, it may be called in at most one loop more, and has the answer of
-- the reader.
pub record ReadsBodies (level loops : ℕ) (pre : Global → MutBor (List Token) → ℕ → ℕ → Type 0)
    (post : Global → MutBor (List Token) → ℕ → ℕ → Result Body Refusal → MutBor (List Token)
    → Type 0) : Type 0 where
  pub callable : (alloc : Global) (old : MutBor (List Token)) (around : ℕ)
      → 0 < level → around ≤ loops + 1 → pre alloc old (level - 1) around
  pub reads : (alloc : Global) (old new : MutBor (List Token)) (around : ℕ)
      (r : Result Body Refusal) → 0 < level → post alloc old (level - 1) around r new
      → Reads (body level around old.now) r new.now
