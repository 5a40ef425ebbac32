use Rattle.std.proofs.Common.{refl}
use Rattle.dp_actions.proofs.AtOnceLaws.{breaks_off, gives, goes_on}
use Rattle.dp_step.specs.inner.Tests.{setting_by}
use Rattle.dp_step.proofs.tests.test_holds.Goals as goal

pub returns-in-Some : goal.returns-in-Some
returns-in-Some c = let seen = rw c.in-Some.is at c.truth.ensures in record { finds = seen (setting_by c.args.whole) }

pub returns-then-not-is_momentless : goal.returns-then-not-is_momentless
returns-then-not-is_momentless c = record { finds = refl }

pub returns-in-Ok : goal.returns-in-Ok
returns-in-Ok c = record { finds = goes_on _ (rw c.in-Ok.is at c.value.ensures) (rw c.holds.ensures gives) }

pub returns-in-Err : goal.returns-in-Err
returns-in-Err c = record { finds = breaks_off _ (rw c.in-Err.is at c.value.ensures) }
