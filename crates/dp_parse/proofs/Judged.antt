-- What tokens are or why they are nothing, by the outcome of a reader that leaves none unread.
use Rattle.std.proofs.Common.{◌≡◌, ◌≢◌, ◌⊎◌, inl, inr, List, length, Ok, Err, refl, sym, ap, subst}
use Rattle.dp_lexer.specs.declared.token.Token.{Token}
use Rattle.dp_parse.specs.declared.errors.ParseError.{ParseError}
use Rattle.dp_parse.specs.declared.errors.ParseError.TheVariants as error
use Rattle.dp_grammar.specs.declared.refusal.Refusal.{Refusal}
use Rattle.dp_grammar.specs.declared.refusal.Refusal.TheVariants as refusal
use Rattle.dp_token_rules.specs.inner.Input.{Reader}
use Rattle.dp_parse.specs.Programs.{AreWrong, reported}
use Rattle.dp_token_rules.proofs.Answers.{Rules}
use Rattle.dp_grammar.proofs.Answers.{Stop}
use Rattle.dp_grammar.proofs.Verdicts.{ReadsAll}
use Rattle.dp_token_rules.proofs.Verdicts.{found, only, unexpected, too_deep, unexpected_spelled, too_deep_spelled, one_unexpected, one_too_deep, not_both}

-- Tokens are wrong for one reason at most.
pub one_reason : {L A : Type 0} (rule : Rules L A) (limits : L) (ts : List Token) (e why : ParseError)
    → e ≢ error.Memory → why ≢ error.Memory → AreWrong rule limits ts e → AreWrong rule limits ts why → e ≡ why
one_reason rule limits ts (error.Unexpected at) (error.Unexpected other) some differs h g =
    ap (λ n. error.Unexpected n) (one_unexpected rule limits at other ts h g)
one_reason rule limits ts (error.Unexpected at) (error.TooDeep other) some differs h g =
    absurd (not_both rule limits at other ts h g)
one_reason rule limits ts (error.TooDeep at) (error.Unexpected other) some differs h g =
    absurd (not_both rule limits other at ts g h)
one_reason rule limits ts (error.TooDeep at) (error.TooDeep other) some differs h g =
    ap (λ n. error.TooDeep n) (one_too_deep rule limits at other ts h g)
one_reason rule limits ts (error.Lex w) why some differs h g = absurd h
one_reason rule limits ts (error.DoubleFunction name) why some differs h g = absurd h
one_reason rule limits ts error.Memory why some differs h g = absurd (some refl)
one_reason rule limits ts e (error.Lex w) some differs h g = absurd g
one_reason rule limits ts e (error.DoubleFunction name) some differs h g = absurd g
one_reason rule limits ts e error.Memory some differs h g = absurd (differs refl)

-- What is wrong spells nothing.
pub wrong_spelled : {L A : Type 0} (rule : Rules L A) (limits : L) (ts : List Token) (e : ParseError) → e ≢ error.Memory
    → AreWrong rule limits ts e → (a : A) → rule limits ts a → ⊥
wrong_spelled rule limits ts (error.Unexpected at) some h a g = unexpected_spelled rule limits limits at ts a h g
wrong_spelled rule limits ts (error.TooDeep at) some h a g = too_deep_spelled rule limits at ts a h g
wrong_spelled rule limits ts (error.Lex w) some h a g = h
wrong_spelled rule limits ts (error.DoubleFunction name) some h a g = h
wrong_spelled rule limits ts error.Memory some h a g = some refl

module _ {L A : Type 0} {Above : L → L → Type 0} {rule : Rules L A} {stop : Stop Token A} {limits : L}
    {p : Reader A} (reader : ReadsAll Above rule stop limits p) (ts : List Token) where
  -- ---- where a value is read

  module _ (a : A) (r : List Token) (is : p ts ≡ Ok (a, r)) where
    pub found_spelled : rule limits ts a
    found_spelled = found reader ts a r is

    pub found_only : (other : A) → rule limits ts other → a ≡ other
    found_only other h = sym (only reader ts a r is limits other h)

    pub found_not_wrong : (why : ParseError) → why ≢ error.Memory → AreWrong rule limits ts why → ⊥
    found_not_wrong why differs h = wrong_spelled rule limits ts why differs h a found_spelled

  -- ---- where the tokens are refused

  cause_of : (e : Refusal) → (e ≢ refusal.Memory → p ts ≡ Err e) → AreWrong rule limits ts (reported (length ts) e)
  cause_of (refusal.Unexpected left) is = (unexpected reader ts left (is (λ h. cc))).1
  cause_of (refusal.TooDeep left) is = (too_deep reader ts left (is (λ h. cc))).1
  cause_of refusal.Memory is = tt

  -- a reason is out of memory or none
  memory_or_not : (e : ParseError) → (e ≡ error.Memory) ⊎ (e ≢ error.Memory)
  memory_or_not error.Memory = inl refl
  memory_or_not (error.Lex w) = inr (λ h. cc)
  memory_or_not (error.Unexpected token) = inr (λ h. cc)
  memory_or_not (error.TooDeep token) = inr (λ h. cc)
  memory_or_not (error.DoubleFunction name) = inr (λ h. cc)

  module _ (e : Refusal) (is : e ≢ refusal.Memory → p ts ≡ Err e) (reason : ParseError)
      (tells : reason ≡ reported (length ts) e) where
    pub refused_cause : AreWrong rule limits ts reason
    refused_cause = subst (λ x. AreWrong rule limits ts x) (sym tells) (cause_of e is)

    pub refused_only : (other : A) → rule limits ts other → reason ≡ error.Memory
    refused_only other h =
        elim (memory_or_not reason) [
          | inl memory ↦ memory
          | inr some ↦ absurd
              (wrong_spelled rule limits ts reason some refused_cause other h)
        ]

    pub refused_refuses : (why : ParseError) → why ≢ error.Memory → AreWrong rule limits ts why
        → (reason ≡ why) ⊎ (reason ≡ error.Memory)
    refused_refuses why differs h =
        elim (memory_or_not reason) [
          | inl memory ↦ inr memory
          | inr some ↦ inl
              (one_reason rule limits ts reason why some differs refused_cause h)
        ]
