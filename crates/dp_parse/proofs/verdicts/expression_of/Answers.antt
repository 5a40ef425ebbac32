use Rattle.std.proofs.Common.{ap, sym, ◌∙◌}
use Rattle.dp_parse.specs.Limits.{limits}
use Rattle.dp_parse.specs.inner.StatementRules.{expression_text}
use Rattle.dp_parse.proofs.FileVerdicts.{text_reads}
use Rattle.dp_parse.proofs.Judged.{found_spelled, found_only, found_not_wrong, refused_cause, refused_only, refused_refuses}
use Rattle.dp_parse.proofs.verdicts.expression_of.Goals as goal

pub returns-in-Ok-clause-found : goal.returns-in-Ok-clause-found
returns-in-Ok-clause-found c =
    found_spelled (text_reads limits.expressions) c.args.tokens.now c.in-Ok.found c.expression_text.new.tokens
    (ap (expression_text limits.expressions) (sym c.new.ensures) ∙ c.in-Ok.ensures)

pub returns-in-Ok-clause-only : goal.returns-in-Ok-clause-only
returns-in-Ok-clause-only c =
    found_only (text_reads limits.expressions) c.args.tokens.now c.in-Ok.found c.expression_text.new.tokens
    (ap (expression_text limits.expressions) (sym c.new.ensures) ∙ c.in-Ok.ensures)

pub returns-in-Ok-clause-refuses : goal.returns-in-Ok-clause-refuses
returns-in-Ok-clause-refuses c =
    found_not_wrong (text_reads limits.expressions) c.args.tokens.now c.in-Ok.found c.expression_text.new.tokens
    (ap (expression_text limits.expressions) (sym c.new.ensures) ∙ c.in-Ok.ensures)

pub returns-in-Err-clause-only : goal.returns-in-Err-clause-only
returns-in-Err-clause-only c =
    refused_only (text_reads limits.expressions) c.args.tokens.now c.in-Err.refusal
    (λ some. ap (expression_text limits.expressions) (sym c.new.ensures) ∙ c.in-Err.ensures some) c.refused.result
    c.refused.ensures

pub returns-in-Err-clause-cause : goal.returns-in-Err-clause-cause
returns-in-Err-clause-cause c =
    refused_cause (text_reads limits.expressions) c.args.tokens.now c.in-Err.refusal
    (λ some. ap (expression_text limits.expressions) (sym c.new.ensures) ∙ c.in-Err.ensures some) c.refused.result
    c.refused.ensures

pub returns-in-Err-clause-refuses : goal.returns-in-Err-clause-refuses
returns-in-Err-clause-refuses c =
    refused_refuses (text_reads limits.expressions) c.args.tokens.now c.in-Err.refusal
    (λ some. ap (expression_text limits.expressions) (sym c.new.ensures) ∙ c.in-Err.ensures some) c.refused.result
    c.refused.ensures
