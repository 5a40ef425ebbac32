-- The reasons of refusals: bytes without tokens, and tokens that spell nothing.
use Rattle.std.proofs.Common.{◌≡◌, ◌⊎◌, inl, inr, ℕ, refl, sym, ap, ◌∙◌}
use Rattle.dp_lexer.specs.declared.errors.LexError.{LexError}
use Rattle.dp_lexer.specs.declared.errors.LexError.TheVariants as lex
use Rattle.dp_lexer.specs.declared.fault.Fault.{Fault}
use Rattle.dp_lexer.specs.declared.fault.Fault.TheVariants as fault
use Rattle.dp_lexer.specs.Tokens.{error_of}
use Rattle.dp_parse.specs.declared.errors.ParseError.{ParseError}
use Rattle.dp_parse.specs.declared.errors.ParseError.TheVariants as error
use Rattle.dp_parse.specs.Programs.{HasNoTokens}
use Rattle.dp_parse.specs.inner.Reasons.{without_tokens}

-- ---- bytes without tokens

module _ (Refused : Fault → ℕ → Type 0) where
  -- the lexer's refusal is a reason
  pub lexical_cause : (why : LexError) → ((f : Fault) (offset : ℕ) → why ≡ error_of f offset → Refused f offset)
      → (P : ParseError → Type 0)
      → ((w : LexError) → HasNoTokens Refused w → P (error.Lex w)) → P error.Memory → P (without_tokens why)
  lexical_cause (lex.BadByte offset) refused P by memory =
      by (lex.BadByte offset) (record {
        fault = fault.BadByte;
        offset = offset;
        refused = refused fault.BadByte offset
            refl;
        reason = refl;
      })
  lexical_cause (lex.OpenString offset) refused P by memory =
      by (lex.OpenString offset) (record {
        fault = fault.OpenString;
        offset = offset;
        refused = refused fault.OpenString
            offset refl;
        reason = refl;
      })
  lexical_cause (lex.OpenComment offset) refused P by memory =
      by (lex.OpenComment offset) (record {
        fault = fault.OpenComment;
        offset = offset;
        refused = refused
            fault.OpenComment offset refl;
        reason = refl;
      })
  lexical_cause (lex.WideNumber offset) refused P by memory =
      by (lex.WideNumber offset) (record {
        fault = fault.WideNumber;
        offset = offset;
        refused = refused fault.WideNumber
            offset refl;
        reason = refl;
      })
  lexical_cause lex.Memory refused P by memory = memory

  told_lexical : (f : Fault) (offset : ℕ) → without_tokens (error_of f offset) ≡ error.Lex (error_of f offset)
  told_lexical fault.BadByte offset = refl
  told_lexical fault.OpenString offset = refl
  told_lexical fault.OpenComment offset = refl
  told_lexical fault.WideNumber offset = refl

  -- and the only one
  pub lexical_refuses : (why w : LexError) → HasNoTokens Refused w
      → ((f : Fault) (offset : ℕ) → Refused f offset → (why ≡ error_of f offset) ⊎ (why ≡ lex.Memory))
      → (r : ParseError) → r ≡ without_tokens why → (r ≡ error.Lex w) ⊎ (r ≡ error.Memory)
  lexical_refuses why w none refuses r is = go (refuses none.fault none.offset none.refused)
    where
      go : (why ≡ error_of none.fault none.offset) ⊎ (why ≡ lex.Memory) → (r ≡ error.Lex w) ⊎ (r ≡ error.Memory)
      go (inl e) =
          inl (is ∙ ap without_tokens e ∙ told_lexical none.fault none.offset ∙ ap (λ x. error.Lex x) (sym none.reason))
      go (inr e) = inr (is ∙ ap without_tokens e)
