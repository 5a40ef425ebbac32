use Rattle.dp_write_commands.proofs.Sent.{answer_sent}
use Rattle.dp_write_commands.proofs.commands.write_response.Goals as goal

pub returns-clause-is_sent : goal.returns-clause-is_sent
returns-clause-is_sent g c =
    answer_sent c.args.bundle.now c.args.features.now c.args.state.now c.args.to.now.command c.args.to.now.id
    c.args.request.now c.args.to.now.command_bound c.args.to.now.id_bound
    c.make_write.new.state c.make_write.result c.make_write.ensures.answer
