use Rattle.dp_step.specs.inner.Tests.{setting_by}
use Rattle.dp_step.proofs.FoundTests.{one-holds}
use Rattle.dp_step.proofs.tests.head_holds.Goals as goal

pub returns-in-While : goal.returns-in-While
returns-in-While c =
    rw (c.in-While.is, one-holds (setting_by c.args.whole) c.args.state.now c.in-While.test.now) c.test_holds.ensures

pub returns-in-For : goal.returns-in-For
returns-in-For c = rw (c.in-For.is, ← c.as_slice.ensures) c.all_hold.ensures
