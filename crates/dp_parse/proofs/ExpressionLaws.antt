-- The tree of an expression as a function of bytes is the one that they spell.
use Rattle.std.proofs.Common.{◌≡◌, ◌≢◌, ℕ, List, Option, Some, None, Result, Ok, Err, IfOk, MatchResult, refl, ap, ◌∙◌}
use Rattle.dp_lexer.specs.declared.token.Token.{Token}
use Rattle.dp_lexer.specs.ExpressionTokens.{expression_tokens}
use Rattle.dp_lexer.specs.Tokens.{AreTokens}
use Rattle.dp_lexer.proofs.TokenLaws.{tokens_told}
use Rattle.dp_parse.specs.declared.errors.ParseError.{ParseError}
use Rattle.dp_parse.specs.declared.errors.ParseError.TheVariants as error
use Rattle.dp_tree.specs.declared.tree.Expression.{Expression}
use Rattle.dp_token_rules.specs.inner.Input.{Outcome}
use Rattle.dp_parse.specs.ExpressionIn.{value_in, tree_in, expression_in, IsExact, IsReadBy}
use Rattle.dp_parse.specs.Limits.{limits}
use Rattle.dp_parse.specs.Programs.{IsExpressionText}
use Rattle.dp_parse.specs.Statements.{SpellsExpression}
use Rattle.dp_parse.specs.inner.StatementRules.{expression_text}
use Rattle.dp_token_rules.proofs.Verdicts.{found, all_found}
use Rattle.dp_parse.proofs.FileVerdicts.{text_reads}

-- what is read of tokens is what they spell
spelled_of : (ts : List Token) (e : Expression) → tree_in (Some ts) ≡ Some e → SpellsExpression limits.expressions ts e
spelled_of ts e = go (expression_text limits.expressions ts) refl
  where
    go : (o : Outcome Expression) → expression_text limits.expressions ts ≡ o → value_in o ≡ Some e
        → SpellsExpression limits.expressions ts e
    go (Ok x) is same =
        let one : x.0 ≡ e = cc in found (text_reads limits.expressions) ts e x.1 (is ∙ ap (λ v. Ok (v, x.1)) one)
    go (Err f) is same = absurd (cc)

told_spelled : (bytes : List ℕ) (e : Expression) → expression_in bytes ≡ Some e → IsExpressionText bytes e
told_spelled bytes e = go (expression_tokens bytes) refl
  where
    go : (o : Option (List Token)) → expression_tokens bytes ≡ o → tree_in o ≡ Some e → IsExpressionText bytes e
    go None is same = absurd (cc)
    go (Some ts) is same =
        record { tokens = ts; are_tokens = (tokens_told bytes ts).0 is; spelled = spelled_of ts e same }

spelled_told : (bytes : List ℕ) (e : Expression) → IsExpressionText bytes e → expression_in bytes ≡ Some e
spelled_told bytes e h =
    ap tree_in ((tokens_told bytes h.tokens).1 h.are_tokens)
    ∙ ap value_in (all_found (text_reads limits.expressions) h.tokens e h.spelled)

pub expression_told : IsExact expression_in
expression_told bytes e = (told_spelled bytes e, spelled_told bytes e)

-- where each tree that is spelled comes to that memory ran out, and it is none of that, no tree is told
pub none_told : (bytes : List ℕ) (why : ParseError) → ((e : Expression) → IsExpressionText bytes e → why ≡ error.Memory)
    → why ≢ error.Memory → expression_in bytes ≡ None
none_told bytes why only some = go (expression_in bytes) refl
  where
    go : (o : Option Expression) → expression_in bytes ≡ o → o ≡ None
    go None is = refl
    go (Some e) is = absurd (some (only e (told_spelled bytes e is)))

-- what a call answers that finds what these tokens of the bytes spell, and nothing else but out of memory
pub told_by : (bytes : List ℕ) (ts : List Token) → AreTokens bytes ts → (r : Result Expression ParseError)
    → IfOk r (λ e. SpellsExpression limits.expressions ts e)
    → ((e : Expression) → IsExpressionText bytes e → MatchResult r (λ other. other ≡ e) (λ why. why ≡ error.Memory))
    → IsReadBy (expression_in bytes) r
told_by bytes ts are (Ok e) h only = spelled_told bytes e (record { tokens = ts; are_tokens = are; spelled = h })
told_by bytes ts are (Err why) h only = none_told bytes why only
