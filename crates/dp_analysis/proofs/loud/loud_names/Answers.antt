use Rattle.std.proofs.Common.{◌≤◌, ◌∙◌, arith}
use Rattle.dp_analysis.specs.Quiet.{most_calls}
use Rattle.dp_analysis.proofs.LoudLaws.{first_walk, last_walk, next_walk}
use Rattle.dp_analysis.proofs.loud.loud_names.Goals as goal

pub loop-walk-init : goal.loop-walk-init
loop-walk-init c = λ name. c.in_ok-loud.ensures name ∙ first_walk c.args.lines.now c.args.bundle.now name

pub loop-walk-preserved : goal.loop-walk-preserved
loop-walk-preserved c = λ name. c.in_ok-fewer.ensures name
    ∙ next_walk c.args.lines.now c.loop-walk.walk c.args.bundle.now c.loop-walk.loud c.loop-walk.invariant name

pub returns-then-is_same : goal.returns-then-is_same
returns-then-is_same c =
    let within : c.loop-walk.walk ≤ most_calls = omega (arith, c.loop-walk-test.true, c.loop-walk.auto.walk-end) in
    last_walk c.args.lines.now c.loop-walk.walk c.args.bundle.now c.loop-walk.loud c.in_ok-fewer.fewer within
    c.loop-walk.invariant
    c.in_ok-fewer.ensures (c.is_same.ensures.0 c.if-is_same.true)
