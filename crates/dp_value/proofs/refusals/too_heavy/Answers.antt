use Rattle.std.proofs.Common.{arith}
use Rattle.dp_value.proofs.WriteLemmas.{is_light, is_heavy}
use Rattle.dp_value.proofs.refusals.too_heavy.Goals as goal

pub returns-then-whole-gt-WEIGHT_LIMIT : goal.returns-then-whole-gt-WEIGHT_LIMIT
returns-then-whole-gt-WEIGHT_LIMIT c = λ new weighs.
    is_heavy c.args.beside new
    (omega (arith, weighs, c.saturating_add-whole.ensures, c.if-whole-gt-WEIGHT_LIMIT.true))

pub returns : goal.returns
returns c = λ new weighs.
    is_light c.args.beside new
    (omega (arith, weighs, c.saturating_add-whole.ensures, c.if-whole-gt-WEIGHT_LIMIT.false))
