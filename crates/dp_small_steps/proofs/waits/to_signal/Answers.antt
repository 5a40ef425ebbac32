use Rattle.std.proofs.Common.{sym}
use Rattle.dp_small_steps.proofs.OtherKinds.{passes-to_signal}
use Rattle.dp_small_steps.proofs.waits.to_signal.Goals as goal

pub returns-in-Signal : goal.returns-in-Signal
returns-in-Signal c = λ setting k s. rw c.in-Signal.is (c.receive_signal.ensures setting k s)

pub returns-in_default : goal.returns-in_default
returns-in_default c = λ setting k s. rw (c.unplaced.ensures, c.passed_on.ensures)
    (sym (passes-to_signal setting c.args.work k c.args.given s c.in_default.not-Signal))
