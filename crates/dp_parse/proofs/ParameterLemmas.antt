-- A parameter among others, by what a variable is.
use Rattle.std.proofs.Common.{◌≡◌, Bool, true, false, not, if◌then◌else◌, List, [], ◌∷◌, length, None, refl, sym, ap}
use Rattle.dp_lexer.specs.declared.token.Token.{Token}
use Rattle.dp_lexer.specs.declared.token.TokenKind.{TokenKind}
use Rattle.dp_lexer.specs.declared.token.TokenKind.TheVariants as kind
use Rattle.dp_token_rules.specs.TokenValues.{Text, unless, variable_in}
use Rattle.dp_token_rules.specs.inner.Input.{Reader, and_then, met, variable}
use Rattle.dp_parse.specs.inner.Parameters.{parameter, chosen, is_among, checked}
use Rattle.dp_token_rules.specs.inner.ListReaders.{any_items}
use Rattle.dp_token_rules.specs.declared.terminal.Terminal.{Terminal}
use Rattle.dp_token_rules.specs.Terminals.{is_superglobal}
use Rattle.dp_parse.specs.Statements.{parameter_in}

module _ (found : List Text) (t : Token) (ts : List Token) where
  by_name : (name : Text) (before reserved : Bool) → is_among found name ≡ before
      → met (if before then None else unless reserved name) t ts ≡ and_then (met (unless reserved name) t ts)
      (λ n more. chosen (not (is_among found n)) (length (t ∷ ts)) n more)
  by_name name true true e = refl
  by_name name false true e = refl
  by_name name true false e = ap (λ b. chosen (not b) (length (t ∷ ts)) name ts) (sym e)
  by_name name false false e = ap (λ b. chosen (not b) (length (t ∷ ts)) name ts) (sym e)

  by_kinds : (k : TokenKind)
      → met (parameter_in found k) t ts ≡ and_then (met (variable_in k) t ts)
      (λ n more. chosen (not (is_among found n)) (length (t ∷ ts)) n more)
  by_kinds (kind.Variable name) = by_name name (is_among found name) (is_superglobal name) refl
  by_kinds (kind.Name _) = refl
  by_kinds (kind.Number _) = refl
  by_kinds (kind.Text _) = refl
  by_kinds (kind.Word _) = refl

parameter_is : (found : List Text) (ts : List Token) → parameter found ts ≡ checked found ts
unfolding variable
parameter_is found [] = refl
parameter_is found (t ∷ ts) = by_kinds found t ts t.kind

pub parameters_are : (close : Terminal) (ts : List Token) → any_items parameter close ts ≡ any_items checked close ts
parameters_are close ts =
    ap (λ (item : List Text → Reader Text). any_items item close ts) (λ i found us. parameter_is found us i)
