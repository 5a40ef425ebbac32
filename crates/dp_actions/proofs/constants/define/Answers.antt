use Rattle.std.proofs.Common.{◌≡◌, ◌≢◌, length, arith}
use Rattle.std.proofs.lemmas.Bool.Decides.{nat_tests}
use Rattle.dp_actions.proofs.AtOnceLaws.{ends, surely_over}
use Rattle.dp_actions.proofs.ConstantLaws.{define-other, define-two}
use Rattle.dp_actions.proofs.constants.define.Goals as goal
use Rattle.dp_actions.proofs.constants.define.Goals.{in_default-via-else-values-lt2+else-values-lt3, in_default-via-then-values-lt2}

pub returns-in-len2 : goal.returns-in-len2
returns-in-len2 c =
    let two : length c.args.values.now ≡ 2 = omega arith in
    let is = define-two c.args.values.now c.name-item.result c.value-item.result c.args.state.now two c.name-item.is
    c.value-item.is in
    record { run = rw is c.define_as.ensures.run; sure = rw is c.define_as.ensures.sure }

pub returns-in_default : goal.returns-in_default
returns-in_default c =
    let other : length c.args.values.now ≢ 2 = λ two.
    elim c.in_default.branch [
      | in_default-via-then-values-lt2 w ↦ grind (arith, nat_tests)
      | in_default-via-else-values-lt2+else-values-lt3 w ↦ grind (arith, nat_tests)
    ] in
    let is = define-other c.args.values.now c.args.state.now other in
    record { run = rw (is, c.fatal.ensures) ends; sure = rw (is, c.fatal.ensures) surely_over }
