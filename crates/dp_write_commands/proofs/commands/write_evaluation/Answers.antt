use Rattle.dp_write_commands.proofs.RequestedWrites.{untreed}
use Rattle.dp_write_commands.proofs.commands.write_evaluation.Goals as goal

pub returns-in-Err : goal.returns-in-Err
returns-in-Err g c =
    untreed c.args.bundle.now c.args.features.now c.args.state.now c.args.to.now.command c.args.to.now.id
    c.args.text.now c.in-Err.why c.in-Err.ensures
