use Rattle.std.proofs.Common.{refl, arith}
use Rattle.dp_actions.proofs.LinkedValues.{only}
use Rattle.dp_step.specs.inner.Tests.{setting_by}
use Rattle.dp_step.proofs.FoundTests.{one-holds}
use Rattle.dp_step.proofs.tests.all_hold.Goals as goal

pub returns-in-len1 : goal.returns-in-len1
returns-in-len1 c =
    let one = only c.args.tests.now c.test-item.result (omega arith) (omega arith) c.test-item.is in
    rw (one, one-holds (setting_by c.args.whole) c.args.state.now c.test-item.result) c.test_holds.ensures

pub returns-then-not-all_momentless : goal.returns-then-not-all_momentless
returns-then-not-all_momentless c = record { finds = refl }

pub returns-in-Ok : goal.returns-in-Ok
returns-in-Ok c = record { finds = rw c.in-Ok.is at c.test.ensures }

pub returns-in-Err : goal.returns-in-Err
returns-in-Err c = record { finds = rw c.in-Err.is at c.test.ensures }
