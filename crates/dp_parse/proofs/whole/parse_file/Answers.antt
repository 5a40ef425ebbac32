use Rattle.std.proofs.Common.{◌+◌, sym, ◌∙◌, MatchOption, subst, ap, Err, arith}
use Rattle.dp_lexer.specs.Tokens.{IsFileRefused}
use Rattle.dp_tree.specs.Doubles.{HasNoDouble, IsDouble}
use Rattle.dp_parse.specs.Programs.{IsNoFile}
use Rattle.dp_parse.proofs.Reasons.{lexical_cause}
use Rattle.dp_parse.proofs.Feeds.{file_feeds}
use Rattle.dp_parse.proofs.FileLaws.{no_tokens_only, no_tokens_refuses, refused_only, refused_refuses, double_only, double_refuses, file_only, file_refuses}
use Rattle.dp_parse.proofs.whole.parse_file.Goals as goal

pub returns-in-Err-clause-only : goal.returns-in-Err-clause-only
returns-in-Err-clause-only c =
    no_tokens_only c.args.bytes.now c.in-Err.why c.in-Err.ensures.only c.no_tokens.result c.no_tokens.ensures

pub returns-in-Err-clause-cause : goal.returns-in-Err-clause-cause
returns-in-Err-clause-cause c = subst (IsNoFile c.args.bytes.now) (sym c.no_tokens.ensures)
    (lexical_cause (IsFileRefused c.args.bytes.now) c.in-Err.why
    (λ f offset is. c.in-Err.ensures.refused f offset (ap (λ e. Err e) is)) (IsNoFile c.args.bytes.now)
    (λ w h. h) tt)

pub returns-in-Err-clause-refuses : goal.returns-in-Err-clause-refuses
returns-in-Err-clause-refuses c =
    no_tokens_refuses c.args.bytes.now c.in-Err.why c.in-Err.ensures.only c.in-Err.ensures.refuses c.no_tokens.result
    c.no_tokens.ensures

pub returns-in-Err-parts_of-clause-only : goal.returns-in-Err-parts_of-clause-only
returns-in-Err-parts_of-clause-only c =
    refused_only c.args.bytes.now c.as_slice.result.now (λ us are. c.as_slice.ensures.value
    ∙ c.in-Ok.ensures.only us are) c.in-Ok.ensures.refuses
    c.in-Err-parts_of.why c.in-Err-parts_of.ensures.only c.in-Err-parts_of.ensures.refuses

pub returns-in-Err-parts_of-clause-refuses : goal.returns-in-Err-parts_of-clause-refuses
returns-in-Err-parts_of-clause-refuses c =
    refused_refuses c.args.bytes.now c.as_slice.result.now (λ us are. c.as_slice.ensures.value
    ∙ c.in-Ok.ensures.only us are) c.in-Ok.ensures.refuses
    c.in-Err-parts_of.why c.in-Err-parts_of.ensures.only c.in-Err-parts_of.ensures.refuses

pub returns-in-Some-clause-only : goal.returns-in-Some-clause-only
returns-in-Some-clause-only c =
    double_only c.args.bytes.now c.as_slice.result.now (λ us are. c.as_slice.ensures.value
    ∙ c.in-Ok.ensures.only us are) c.in-Ok.ensures.refuses
    c.in-Ok-parts_of.parts c.in-Ok-parts_of.ensures.only c.in-Ok-parts_of.ensures.refuses c.in-Some.name
    (subst (λ fs. IsDouble fs c.in-Some.name) c.as_slice-2.ensures
    (subst (λ o. MatchOption o (HasNoDouble c.as_slice-2.result.now) (IsDouble c.as_slice-2.result.now))
    c.in-Some.is c.in_ok-name.ensures))

pub returns-in-Some-clause-refuses : goal.returns-in-Some-clause-refuses
returns-in-Some-clause-refuses c =
    double_refuses c.args.bytes.now c.as_slice.result.now (λ us are. c.as_slice.ensures.value
    ∙ c.in-Ok.ensures.only us are) c.in-Ok.ensures.refuses
    c.in-Ok-parts_of.parts c.in-Ok-parts_of.ensures.only c.in-Ok-parts_of.ensures.refuses c.in-Some.name
    (subst (λ fs. IsDouble fs c.in-Some.name) c.as_slice-2.ensures
    (subst (λ o. MatchOption o (HasNoDouble c.as_slice-2.result.now) (IsDouble c.as_slice-2.result.now))
    c.in-Some.is c.in_ok-name.ensures))

pub overflow_cast-lines : goal.overflow_cast-lines
overflow_cast-lines c =
    let w = file_feeds c.args.bytes.now c.in-Ok.tokens.items c.in-Ok.ensures.found in let e = c.line_feeds.ensures in
    let r = c.requires in omega (arith, w, e, r)

pub overflow_add-lines : goal.overflow_add-lines
overflow_add-lines c =
    let w = file_feeds c.args.bytes.now c.in-Ok.tokens.items c.in-Ok.ensures.found in let e = c.line_feeds.ensures in
    let r = c.requires in omega (arith, w, e, r)

pub returns-clause-only : goal.returns-clause-only
returns-clause-only c = λ file h.
    (λ i. record {
      body = c.in-Ok-parts_of.parts.body;
      functions = c.in-Ok-parts_of.parts.functions;
      lines = 1 +
          c.line_feeds.ensures i;
    })
    ∙ file_only c.args.bytes.now c.as_slice.result.now (λ us are. c.as_slice.ensures.value
    ∙ c.in-Ok.ensures.only us are) c.in-Ok.ensures.refuses
    c.in-Ok-parts_of.parts c.in-Ok-parts_of.ensures.only c.in-Ok-parts_of.ensures.refuses
    (subst HasNoDouble c.as_slice-2.ensures (subst (λ o. MatchOption o (HasNoDouble c.as_slice-2.result.now)
    (IsDouble c.as_slice-2.result.now)) c.in_default.is c.in_ok-name.ensures)) file h

pub returns-clause-refuses : goal.returns-clause-refuses
returns-clause-refuses c =
    file_refuses c.args.bytes.now c.as_slice.result.now (λ us are. c.as_slice.ensures.value
    ∙ c.in-Ok.ensures.only us are) c.in-Ok.ensures.refuses
    c.in-Ok-parts_of.parts c.in-Ok-parts_of.ensures.only c.in-Ok-parts_of.ensures.refuses
    (subst HasNoDouble c.as_slice-2.ensures (subst (λ o. MatchOption o (HasNoDouble c.as_slice-2.result.now)
    (IsDouble c.as_slice-2.result.now)) c.in_default.is c.in_ok-name.ensures))
