use Rattle.dp_meaning.specs.Writes.{evaluation_setting}
use Rattle.dp_meaning.proofs.ValueLaws.{value-given, value-missing, value-stops}
use Rattle.dp_meaning.proofs.values.value_in.Goals as goal

pub returns-in-Ok : goal.returns-in-Ok
returns-in-Ok c =
    value-given c.args.bundle.now c.args.e.now c.args.state.now c.in-Ok.value
    (rw c.in-Ok.is at (c.observe.ensures (evaluation_setting c.args.bundle.now)))

pub returns-in-Err-Finished : goal.returns-in-Err-Finished
returns-in-Err-Finished c =
    value-missing c.args.bundle.now c.args.e.now c.args.state.now c.in-Err-Finished.field-0-0 c.requires
    (rw (c.in-Err-Finished.is, c.in-Err-Finished.field-0-is) at
    (c.observe.ensures (evaluation_setting c.args.bundle.now)))

pub unreachable-requires : goal.unreachable-requires
unreachable-requires c =
    value-stops c.args.bundle.now c.args.e.now c.args.state.now c.in-Err-Stopped.field-0-0
    (rw (c.in-Err-Stopped.is, c.in-Err-Stopped.field-0-is) at
    (c.observe.ensures (evaluation_setting c.args.bundle.now)))
