-- Lists with commas between their items.
use Rattle.std.specs.Prelude.{ℕ, List, [], ◌∷◌, ◌++◌}
use Rattle.dp_token_rules.specs.declared.terminal.Terminal.TheVariants.{Of}
use Rattle.dp_lexer.specs.declared.token.Word.TheVariants as word
use Rattle.dp_token_rules.specs.declared.terminal.Terminal.{Terminal}
use Rattle.dp_token_rules.specs.Rules.{Rule, ◌>>=◌, ◌>>◌, ◌or◌, Made, Mark, Closed, Perhaps}

module _ {A : Type 0} (item : List A → Rule A) where
  -- "," item, where the item may depend on those before it
  abbrev pub NextItem : List A → Rule (List A)
  NextItem all = Mark (Of word.Comma) >> Made (item all) (λ a. all ++ a ∷ [])

  -- item *( "," item ), and what ends them
  abbrev pub ItemsUpTo : Rule ℕ → Rule (List A)
  ItemsUpTo end = item [] >>= (λ first. Closed NextItem (λ all. Made end (λ _. all)) (first ∷ []))

  -- item *( "," item ) close
  abbrev pub PlainItems : Terminal → Rule (List A)
  PlainItems close = ItemsUpTo (Mark close)

  -- item *( "," item ) [ "," ] close
  abbrev pub SomeItems : Terminal → Rule (List A)
  SomeItems close = ItemsUpTo (Perhaps (Mark (Of word.Comma)) >> Mark close)

  abbrev pub NoItems : Terminal → Rule (List A)
  NoItems close = Made (Mark close) (λ _. [])

  -- the same lists, possibly empty
  abbrev pub AnyPlainItems : Terminal → Rule (List A)
  AnyPlainItems close = NoItems close or PlainItems close

  abbrev pub AnyItems : Terminal → Rule (List A)
  AnyItems close = NoItems close or SomeItems close
