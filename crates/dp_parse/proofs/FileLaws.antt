-- What a file is, where its tokens are found.
use Rattle.std.proofs.Common.{◌≡◌, ◌≢◌, ◌⊎◌, inl, inr, ℕ, ◌+◌, List, refl, sym, ap, ◌∙◌, subst}
use Rattle.dp_lexer.specs.declared.errors.LexError.{LexError}
use Rattle.dp_lexer.specs.declared.errors.LexError.TheVariants as lex
use Rattle.dp_lexer.specs.declared.fault.Fault.{Fault}
use Rattle.dp_lexer.specs.declared.token.Token.{Token}
use Rattle.dp_lexer.specs.Tokens.{AreFileTokens, IsFileRefused, error_of, feeds}
use Rattle.dp_parse.specs.declared.ended.Parts.{Parts}
use Rattle.dp_parse.specs.declared.errors.ParseError.{ParseError}
use Rattle.dp_parse.specs.declared.errors.ParseError.TheVariants as error
use Rattle.dp_tree.specs.declared.tree.File.{File}
use Rattle.dp_tree.specs.Doubles.{HasNoDouble, IsDouble}
use Rattle.dp_parse.specs.Programs.{AreWrong, IsFile, IsNoFile}
use Rattle.dp_parse.specs.inner.Reasons.{without_tokens}
use Rattle.dp_parse.specs.Limits.{limits}
use Rattle.dp_parse.specs.Statements.{Spells}
use Rattle.dp_parse.proofs.Reasons.{lexical_refuses}
use Rattle.dp_tree.proofs.Taken.{double_free, one_double}

-- ---- bytes without tokens

pub no_tokens_only : (bytes : List ℕ) (why : LexError) → ((ts : List Token) → AreFileTokens bytes ts → why ≡ lex.Memory)
    → (r : ParseError) → r ≡ without_tokens why → (file : File) → IsFile bytes file → r ≡ error.Memory
no_tokens_only bytes why none r is file h = is ∙ ap without_tokens (none h.tokens h.are_tokens)

pub no_tokens_refuses : (bytes : List ℕ) (why : LexError)
    → ((ts : List Token) → AreFileTokens bytes ts → why ≡ lex.Memory)
    → ((f : Fault) (offset : ℕ) → IsFileRefused bytes f offset → (why ≡ error_of f offset) ⊎ (why ≡ lex.Memory))
    → (r : ParseError) → r ≡ without_tokens why → (other : ParseError) → other ≢ error.Memory → IsNoFile bytes other
    → (r ≡ other) ⊎ (r ≡ error.Memory)
no_tokens_refuses bytes why none refuses r is = go
  where
    missing : (ts : List Token) → AreFileTokens bytes ts → r ≡ error.Memory
    missing ts are = is ∙ ap without_tokens (none ts are)

    go : (other : ParseError) → other ≢ error.Memory → IsNoFile bytes other → (r ≡ other) ⊎ (r ≡ error.Memory)
    go (error.Lex w) differs h = lexical_refuses (IsFileRefused bytes) why w h refuses r is
    go (error.Unexpected token) differs h = inr (missing h.tokens h.are_tokens)
    go (error.TooDeep token) differs h = inr (missing h.tokens h.are_tokens)
    go (error.DoubleFunction name) differs h = inr (missing h.tokens h.are_tokens)
    go error.Memory differs h = absurd (differs refl)

-- ---- bytes with these tokens

module _ (bytes : List ℕ) (ts : List Token) (one : (us : List Token) → AreFileTokens bytes us → ts ≡ us)
    (refused : (f : Fault) (offset : ℕ) → IsFileRefused bytes f offset → ⊥) where
  parts_in : (file : File) → (h : IsFile bytes file) → Spells limits ts h.parts
  parts_in file h = subst (λ us. Spells limits us h.parts) (sym (one h.tokens h.are_tokens)) h.spelled

  -- the tokens are refused
  module _ (why : ParseError) (only : (parts : Parts) → Spells limits ts parts → why ≡ error.Memory)
      (refuses : (other : ParseError) → other ≢ error.Memory → AreWrong Spells limits ts other
      → (why ≡ other) ⊎ (why ≡ error.Memory)) where
    pub refused_only : (file : File) → IsFile bytes file → why ≡ error.Memory
    refused_only file h = only h.parts (parts_in file h)

    pub refused_refuses : (other : ParseError) → other ≢ error.Memory → IsNoFile bytes other
        → (why ≡ other) ⊎ (why ≡ error.Memory)
    refused_refuses (error.Lex w) differs h = absurd (refused h.fault h.offset h.refused)
    refused_refuses (error.Unexpected token) differs h =
        refuses (error.Unexpected token) differs (subst (λ us. AreWrong Spells limits us (error.Unexpected token))
        (sym (one h.tokens h.are_tokens)) h.wrong)
    refused_refuses (error.TooDeep token) differs h =
        refuses (error.TooDeep token) differs (subst (λ us. AreWrong Spells limits us (error.TooDeep token))
        (sym (one h.tokens h.are_tokens)) h.wrong)
    refused_refuses (error.DoubleFunction name) differs h =
        inr (only h.parts (subst (λ us. Spells limits us h.parts) (sym (one h.tokens h.are_tokens)) h.spelled))
    refused_refuses error.Memory differs h = absurd (differs refl)

  -- they spell these parts
  module _ (parts : Parts) (only : (other : Parts) → Spells limits ts other → parts ≡ other)
      (refuses : (other : ParseError) → other ≢ error.Memory → AreWrong Spells limits ts other → ⊥) where
    -- a function has a name that is taken
    module _ (name : List ℕ) (double : IsDouble parts.functions name) where
      pub double_only : (file : File) → IsFile bytes file → error.DoubleFunction name ≡ error.Memory
      double_only file h =
          absurd (double_free parts.functions name double (subst HasNoDouble
          (ap (λ p. p.functions) (sym (only h.parts (parts_in file h)))) h.apart))

      pub double_refuses : (other : ParseError) → other ≢ error.Memory → IsNoFile bytes other
          → (error.DoubleFunction name ≡ other) ⊎ (error.DoubleFunction name ≡ error.Memory)
      double_refuses (error.Lex w) differs h = absurd (refused h.fault h.offset h.refused)
      double_refuses (error.Unexpected token) differs h =
          absurd (refuses (error.Unexpected token) differs (subst
          (λ us. AreWrong Spells limits us (error.Unexpected token)) (sym (one h.tokens h.are_tokens)) h.wrong))
      double_refuses (error.TooDeep token) differs h =
          absurd (refuses (error.TooDeep token) differs (subst (λ us. AreWrong Spells limits us (error.TooDeep token))
          (sym (one h.tokens h.are_tokens)) h.wrong))
      double_refuses (error.DoubleFunction other) differs h =
          let same : parts ≡ h.parts = only h.parts (subst (λ us. Spells limits us h.parts)
          (sym (one h.tokens h.are_tokens)) h.spelled) in
          inl (ap (λ n. error.DoubleFunction n) (one_double parts.functions name other double
          (subst (λ p. IsDouble p.functions other) (sym same) h.double)))
      double_refuses error.Memory differs h = absurd (differs refl)

    -- no name is taken
    module _ (free : HasNoDouble parts.functions) where
      pub file_only : (file : File) → IsFile bytes file
          → record { body = parts.body; functions = parts.functions; lines = 1 + feeds bytes } ≡ file
      file_only file h =
          let same : parts ≡ h.parts = only h.parts (parts_in file h) in
          let body : parts.body ≡ file.body = ap (λ p. p.body) same ∙ sym h.body in
          let functions : parts.functions ≡ file.functions = ap (λ p. p.functions) same ∙ sym h.functions in
          λ i. record { body = body i; functions = functions i; lines = sym h.lines i }

      pub file_refuses : (other : ParseError) → other ≢ error.Memory → IsNoFile bytes other → ⊥
      file_refuses (error.Lex w) differs h = refused h.fault h.offset h.refused
      file_refuses (error.Unexpected token) differs h =
          refuses (error.Unexpected token) differs (subst (λ us. AreWrong Spells limits us (error.Unexpected token))
          (sym (one h.tokens h.are_tokens)) h.wrong)
      file_refuses (error.TooDeep token) differs h =
          refuses (error.TooDeep token) differs (subst (λ us. AreWrong Spells limits us (error.TooDeep token))
          (sym (one h.tokens h.are_tokens)) h.wrong)
      file_refuses (error.DoubleFunction other) differs h =
          let same : parts ≡ h.parts = only h.parts (subst (λ us. Spells limits us h.parts)
          (sym (one h.tokens h.are_tokens)) h.spelled) in
          double_free parts.functions other (subst (λ p. IsDouble p.functions other) (sym same) h.double) free
      file_refuses error.Memory differs h = differs refl
