-- A token that is taken for what its sort is worth.
use Rattle.std.proofs.Common.{◌≡◌, List, [], ◌∷◌, Option, refl}
use Rattle.dp_lexer.specs.declared.token.Token.{Token}
use Rattle.dp_token_rules.specs.declared.terminal.Terminal.{Terminal}
use Rattle.dp_token_rules.specs.Terminals.{head}
use Rattle.dp_token_rules.specs.inner.Input.{one, taken}
use Rattle.dp_token_rules.specs.TokenValues.{by_terminal}

pub sort_taken : {A : Type 0} (worth : Terminal → Option A) (ts : List Token)
    → one (by_terminal worth) ts ≡ taken (worth (head ts)) ts
sort_taken worth [] = refl
sort_taken worth (t ∷ ts) = refl
