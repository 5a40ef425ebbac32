-- A body is a statement with a level less.
use Rattle.std.proofs.Common.{◌≡◌, ℕ, suc, ◌-◌, ◌<◌, List, ap, arith}
use Rattle.dp_lexer.specs.declared.token.Token.{Token}
use Rattle.dp_parse.specs.inner.Within.{body}
use Rattle.dp_parse.specs.inner.StatementRules.{body_below, statement}

pub body_is : (level around : ℕ) (ts : List Token) → 0 < level
    → statement 32 (level - 1) around ts ≡ body level around ts
unfolding body_below statement
body_is level around ts some = let e : suc (level - 1) ≡ level = omega arith in ap (λ n. body n around ts) e
