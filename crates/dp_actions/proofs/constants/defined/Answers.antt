use Rattle.std.proofs.Common.{◌≡◌, ◌≢◌, length, arith}
use borrow.Author.Tests.{ltb-false, ltb-true}
use Rattle.dp_actions.proofs.AtOnceLaws.{ends, surely_over}
use Rattle.dp_actions.proofs.ConstantLaws.{defined-one, defined-other}
use Rattle.dp_actions.proofs.constants.defined.Goals as goal
use Rattle.dp_actions.proofs.constants.defined.Goals.{in_default-via-else-values-lt1+else-values-lt2, in_default-via-then-values-lt1}

pub returns-in-len1 : goal.returns-in-len1
returns-in-len1 c =
    let one : length c.args.values.now ≡ 1 = omega arith in
    let is = defined-one c.args.values.now c.name-item.result c.args.state.now one c.name-item.is in
    record { run = rw is c.defined_as.ensures.run; sure = rw is c.defined_as.ensures.sure }

pub returns-in_default : goal.returns-in_default
returns-in_default c =
    let other : length c.args.values.now ≢ 1 = λ one.
    elim c.in_default.branch [
      | in_default-via-then-values-lt1 w ↦ omega (arith, ltb-true)
      | in_default-via-else-values-lt1+else-values-lt2 w ↦ omega (arith, ltb-false)
    ] in
    let is = defined-other c.args.values.now c.args.state.now other in
    record { run = rw (is, c.fatal.ensures) ends; sure = rw (is, c.fatal.ensures) surely_over }
