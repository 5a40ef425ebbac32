use Rattle.std.proofs.Common.{◌≡◌, ◌<◌, List, [], ◌∷◌, ℕ, length, None, sym, ap, ◌∙◌, refl, arith}
use Rattle.dp_lexer.specs.inner.Lexer.{longer, close_len}
use Rattle.dp_lexer.proofs.comments.close_len.Goals as goal

-- fewer than two bytes close nothing
close_len-short : (z : List ℕ) → length z < 2 → close_len z ≡ None
close_len-short [] h = refl
close_len-short (b ∷ []) h = refl
close_len-short (b ∷ c ∷ z) h = absurd (omega arith)

pub returns-clause-value : goal.returns-clause-value
returns-clause-value c =
    sym (ap (λ o. longer c.loop-rest.n o) (close_len-short c.loop-rest.rest.now (omega arith)))
    ∙ c.loop-rest.invariant.0
