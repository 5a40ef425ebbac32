use Rattle.std.proofs.Common.{◌≡◌, ℕ, ◌-◌, List, length, take, drop, refl, sym, ◌∙◌, subst}
use Rattle.dp_lexer.specs.declared.fault.Fault.{Fault}
use Rattle.dp_lexer.specs.declared.fault.Fault.TheVariants as faults
use Rattle.dp_lexer.specs.declared.errors.LexError.TheVariants as error
use Rattle.dp_lexer.specs.Tokens.{HasTag, AreTokensFrom, IsRefusedFrom, IsFileRefused, no_tag, behind_tag, error_of}
use Rattle.dp_lexer.proofs.FoundTexts.{whole_rest}
use Rattle.dp_lexer.proofs.LexErrors.{error_one}
use Rattle.dp_lexer.proofs.lexer.lex.Goals as goal

pub returns-then-not-has_tag-clause-refused : goal.returns-then-not-has_tag-clause-refused
returns-then-not-has_tag-clause-refused c = λ f o e.
    let same : error.BadByte 0 ≡ error_of f o = cc in
    let w = error_one faults.BadByte f 0 o same in
    no_tag (sym w.0) (sym w.1) (λ rest h. (let x = (c.if-not-has_tag.ensures.only rest h).0 in cc))

pub returns-clause-only : goal.returns-clause-only
returns-clause-only c = λ ts h.
    let rest = (c.if-not-has_tag.ensures.only h.rest h.tag).1 in
    c.lex_from.ensures.only ts (subst (λ r. AreTokensFrom 5 r ts) (rest ∙ sym (whole_rest c.args.bytes.now 5)) h.tokens)

pub returns-clause-refused : goal.returns-clause-refused
returns-clause-refused c = λ f o e.
    behind_tag (drop 5 c.args.bytes.now) (c.if-not-has_tag.ensures.holds refl)
    (subst (λ r. IsRefusedFrom 5 r f o) (whole_rest c.args.bytes.now 5) (c.lex_from.ensures.refused f o e))

-- a file that has its tag is refused for what stands behind it
refused_behind : (bytes : List ℕ) (f : Fault) (o : ℕ) → ((rest : List ℕ) → HasTag bytes rest → rest ≡ drop 5 bytes)
    → HasTag bytes (drop 5 bytes) → IsFileRefused bytes f o
    → IsRefusedFrom 5 (take (length bytes - 5) (drop 5 bytes)) f o
refused_behind bytes f o only tag (no_tag why at none) = absurd (none (drop 5 bytes) tag)
refused_behind bytes f o only tag (behind_tag rest has r) =
    subst (λ z. IsRefusedFrom 5 z f o) (only rest has ∙ sym (whole_rest bytes 5)) r

pub returns-clause-refuses : goal.returns-clause-refuses
returns-clause-refuses c = λ f o r.
    c.lex_from.ensures.refuses f o (refused_behind c.args.bytes.now f o
    (λ rest h. (c.if-not-has_tag.ensures.only rest h).1) (c.if-not-has_tag.ensures.holds refl) r)
