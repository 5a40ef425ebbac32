use Rattle.std.proofs.Common.{ap, sym, ◌∙◌}
use Rattle.dp_parse.specs.Limits.{limits}
use Rattle.dp_parse.specs.inner.StatementRules.{file}
use Rattle.dp_parse.proofs.FileVerdicts.{file_reads}
use Rattle.dp_parse.proofs.Judged.{found_spelled, found_only, found_not_wrong, refused_cause, refused_only, refused_refuses}
use Rattle.dp_parse.proofs.verdicts.parts_of.Goals as goal

pub returns-in-Ok-clause-found : goal.returns-in-Ok-clause-found
returns-in-Ok-clause-found c =
    found_spelled (file_reads limits) c.args.tokens.now c.in-Ok.parts c.file.new.tokens
    (ap (file limits) (sym c.new.ensures) ∙ c.in-Ok.ensures)

pub returns-in-Ok-clause-only : goal.returns-in-Ok-clause-only
returns-in-Ok-clause-only c =
    found_only (file_reads limits) c.args.tokens.now c.in-Ok.parts c.file.new.tokens
    (ap (file limits) (sym c.new.ensures) ∙ c.in-Ok.ensures)

pub returns-in-Ok-clause-refuses : goal.returns-in-Ok-clause-refuses
returns-in-Ok-clause-refuses c =
    found_not_wrong (file_reads limits) c.args.tokens.now c.in-Ok.parts c.file.new.tokens
    (ap (file limits) (sym c.new.ensures) ∙ c.in-Ok.ensures)

pub returns-in-Err-clause-only : goal.returns-in-Err-clause-only
returns-in-Err-clause-only c =
    refused_only (file_reads limits) c.args.tokens.now c.in-Err.refusal
    (λ some. ap (file limits) (sym c.new.ensures) ∙ c.in-Err.ensures some) c.refused.result c.refused.ensures

pub returns-in-Err-clause-cause : goal.returns-in-Err-clause-cause
returns-in-Err-clause-cause c =
    refused_cause (file_reads limits) c.args.tokens.now c.in-Err.refusal
    (λ some. ap (file limits) (sym c.new.ensures) ∙ c.in-Err.ensures some) c.refused.result c.refused.ensures

pub returns-in-Err-clause-refuses : goal.returns-in-Err-clause-refuses
returns-in-Err-clause-refuses c =
    refused_refuses (file_reads limits) c.args.tokens.now c.in-Err.refusal
    (λ some. ap (file limits) (sym c.new.ensures) ∙ c.in-Err.ensures some) c.refused.result c.refused.ensures
