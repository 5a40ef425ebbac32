-- How lists with commas between their items are read, and any number of pieces.
use Rattle.std.specs.Prelude.{Bool, if◌then◌else◌, List, [], ◌∷◌, ◌++◌, Ok}
use Rattle.std.specs.declared.ops.ControlFlow.{ControlFlow}
use Rattle.std.specs.declared.ops.ControlFlow.TheVariants.{Continue, Break}
use Rattle.dp_token_rules.specs.declared.terminal.Terminal.TheVariants.{Of}
use Rattle.dp_lexer.specs.declared.token.Word.TheVariants as word
use Rattle.dp_token_rules.specs.declared.terminal.Terminal.{Terminal}
use Rattle.dp_token_rules.specs.Terminals.{is, head}
use Rattle.dp_token_rules.specs.inner.Input.{Reader, ◌>>=◌, ◌>>◌, made, mark, closed}

module _ {A : Type 0} (item : List A → Reader A) (close : Terminal) where
  abbrev pub next_item : List A → Reader (ControlFlow (List A) (List A))
  next_item all = made (made (item all) (λ a. all ++ a ∷ [])) Continue

  abbrev pub last_item : List A → Reader (ControlFlow (List A) (List A))
  last_item all = made (made (mark close) (λ _. all)) Break

  abbrev pub plain_step : List A → Reader (ControlFlow (List A) (List A))
  plain_step all ts =
      if is (Of word.Comma) (head ts) then (mark (Of word.Comma) >> next_item all) ts
      else last_item all ts

  -- behind a comma
  abbrev pub behind_comma : List A → Reader (ControlFlow (List A) (List A))
  behind_comma all ts = if is close (head ts) then last_item all ts else next_item all ts

  abbrev pub comma_step : List A → Reader (ControlFlow (List A) (List A))
  comma_step all ts =
      if is (Of word.Comma) (head ts) then (mark (Of word.Comma) >> behind_comma all) ts
      else last_item all ts

  unfoldable pub plain_items : Reader (List A)
  plain_items = item [] >>= (λ first. closed plain_step (first ∷ []))

  unfoldable pub some_items : Reader (List A)
  some_items = item [] >>= (λ first. closed comma_step (first ∷ []))

  abbrev pub no_items : Reader (List A)
  no_items = made (mark close) (λ _. [])

  unfoldable pub any_plain_items : Reader (List A)
  any_plain_items ts = if is close (head ts) then no_items ts else plain_items ts

  unfoldable pub any_items : Reader (List A)
  any_items ts = if is close (head ts) then no_items ts else some_items ts

-- any number of them, while the test of the next token holds
module _ {A : Type 0} (test : Terminal → Bool) (piece : Reader A) where
  abbrev pub many_step : List A → Reader (ControlFlow (List A) (List A))
  many_step all ts =
      if test (head ts) then made (made piece (λ a. all ++ a ∷ [])) Continue ts
      else Ok (Break all, ts)

  unfoldable pub many : Reader (List A)
  many = closed many_step []
