-- How a parameter is read behind others.
use Rattle.std.specs.Prelude.{ℕ, Bool, true, false, not, List, length, Ok, Err}
use Rattle.std.specs.List.{list_any}
use Rattle.std.specs.Str.{bytes_eq}
use Rattle.dp_lexer.specs.declared.token.Token.{Token}
use Rattle.dp_grammar.specs.declared.refusal.Refusal.TheVariants.{Unexpected}
use Rattle.dp_token_rules.specs.TokenValues.{Text}
use Rattle.dp_token_rules.specs.inner.Input.{Outcome, Reader, and_then, kind, variable}
use Rattle.dp_parse.specs.Statements.{parameter_in}

abbrev pub parameter : List Text → Reader Text
parameter found = kind (parameter_in found)

-- the same in two steps: a variable, which must be new, else it is refused with so many tokens left

abbrev pub chosen : Bool → ℕ → Text → List Token → Outcome Text
chosen true left name more = Ok (name, more)
chosen false left name more = Err (Unexpected left)

abbrev pub is_among : List Text → Text → Bool
is_among found name = list_any (λ other. bytes_eq other name) found

abbrev pub checked : List Text → Reader Text
checked found ts =
    and_then (variable ts) (λ name more. chosen (not (is_among found name)) (length ts) name more)
