use Rattle.std.proofs.Common.{◌≡◌, ◌≢◌, ◌⊎◌, inr, List, MatchResult, ap, ◌∙◌, refl, sym, subst}
use Rattle.dp_lexer.specs.declared.token.Token.{Token}
use Rattle.dp_lexer.specs.Tokens.{AreTokens, IsRefused}
use Rattle.dp_parse.specs.declared.errors.ParseError.{ParseError}
use Rattle.dp_parse.specs.declared.errors.ParseError.TheVariants as error
use Rattle.dp_parse.specs.Programs.{AreWrong, IsNoExpression}
use Rattle.dp_parse.specs.inner.Reasons.{without_tokens}
use Rattle.dp_parse.specs.Limits.{limits}
use Rattle.dp_parse.specs.Statements.{SpellsExpression}
use Rattle.dp_parse.proofs.ExpressionLaws.{none_told, told_by}
use Rattle.dp_parse.proofs.Reasons.{lexical_refuses}
use Rattle.dp_parse.proofs.whole.parse_expression.Goals as goal

pub returns-in-Err-clause-only : goal.returns-in-Err-clause-only
returns-in-Err-clause-only c =
    λ e h. c.no_tokens.ensures ∙ ap without_tokens (c.in-Err.ensures.only h.tokens h.are_tokens)

pub returns-in-Err-clause-refuses : goal.returns-in-Err-clause-refuses
returns-in-Err-clause-refuses c = go
  where
    none : (ts : List Token) → AreTokens c.args.bytes.now ts → c.no_tokens.result ≡ error.Memory
    none ts are = c.no_tokens.ensures ∙ ap without_tokens (c.in-Err.ensures.only ts are)

    go : (why : ParseError) → why ≢ error.Memory → IsNoExpression c.args.bytes.now why
        → (c.no_tokens.result ≡ why) ⊎ (c.no_tokens.result ≡ error.Memory)
    go (error.Lex w) other h =
        lexical_refuses (IsRefused c.args.bytes.now) c.in-Err.why w h c.in-Err.ensures.refuses c.no_tokens.result
        c.no_tokens.ensures
    go (error.Unexpected token) other h = inr (none h.tokens h.are_tokens)
    go (error.TooDeep token) other h = inr (none h.tokens h.are_tokens)
    go (error.DoubleFunction name) other h = absurd h
    go error.Memory other h = absurd (other refl)

-- the tokens are the ones that were found
pub returns-clause-only : goal.returns-clause-only
returns-clause-only c =
    λ e h. c.expression_of.ensures.only e (subst (λ ts. SpellsExpression limits.expressions ts e)
    (sym (c.as_slice.ensures.value ∙ c.in-Ok.ensures.only h.tokens h.are_tokens)) h.spelled)

pub returns-clause-refuses : goal.returns-clause-refuses
returns-clause-refuses c = go
  where
    same : (ts : List Token) → AreTokens c.args.bytes.now ts → ts ≡ c.as_slice.result.now
    same ts are = sym (c.as_slice.ensures.value ∙ c.in-Ok.ensures.only ts are)

    go : (why : ParseError) → why ≢ error.Memory → IsNoExpression c.args.bytes.now why
        → MatchResult c.expression_of.result (λ _. ⊥) (λ e. (e ≡ why) ⊎ (e ≡ error.Memory))
    go (error.Lex w) other h = absurd (c.in-Ok.ensures.refuses h.fault h.offset h.refused)
    go (error.Unexpected token) other h =
        c.expression_of.ensures.refuses (error.Unexpected token) other
        (subst (λ ts. AreWrong SpellsExpression limits.expressions ts (error.Unexpected token))
        (same h.tokens h.are_tokens) h.wrong)
    go (error.TooDeep token) other h =
        c.expression_of.ensures.refuses (error.TooDeep token) other
        (subst (λ ts. AreWrong SpellsExpression limits.expressions ts (error.TooDeep token))
        (same h.tokens h.are_tokens) h.wrong)
    go (error.DoubleFunction name) other h = absurd h
    go error.Memory other h = absurd (other refl)

pub returns-in-Err-clause-read : goal.returns-in-Err-clause-read
returns-in-Err-clause-read c =
    none_told c.args.bytes.now c.no_tokens.result (λ e h. c.no_tokens.ensures
    ∙ ap without_tokens (c.in-Err.ensures.only h.tokens h.are_tokens))

pub returns-clause-read : goal.returns-clause-read
returns-clause-read c =
    told_by c.args.bytes.now c.as_slice.result.now (subst (λ ts. AreTokens c.args.bytes.now ts)
    (sym c.as_slice.ensures.value) c.in-Ok.ensures.found) c.expression_of.result c.expression_of.ensures.found
    (λ e h. c.expression_of.ensures.only e (subst (λ ts. SpellsExpression limits.expressions ts e)
    (sym (c.as_slice.ensures.value ∙ c.in-Ok.ensures.only h.tokens h.are_tokens)) h.spelled))
