use Rattle.std.proofs.Common.{subst, sym}
use Rattle.dp_command.specs.declared.command.WriteRequest.TheVariants.{Eval}
use Rattle.dp_meaning.specs.declared.writes.Write.TheVariants.{Evaluate}
use Rattle.dp_write_commands.specs.Results.{Answers}
use Rattle.dp_write_commands.proofs.RequestedWrites.{evaluation_is, tried}
use Rattle.dp_write_commands.proofs.commands.evaluate.Goals as goal

pub returns : goal.returns
returns g c =
    let text = c.args.text.now in
    let before = c.args.state.now in
    let command = c.args.to.now.command in
    let id = c.args.to.now.id in
    subst (Answers c.args.bundle.now c.args.features.now before c.make_evaluation-made.new.state command id (Eval text))
    (sym c.with_write.ensures)
    (tried c.args.bundle.now c.args.features.now before command id c.make_evaluation-made.new.state (Eval text)
    (Evaluate c.args.e) c.make_evaluation-made.result
    (evaluation_is before text c.args.e c.requires) c.make_evaluation-made.ensures)
