use Rattle.dp_view_commands.proofs.Sent.{answer_sent}
use Rattle.dp_view_commands.proofs.views.view_response.Goals as goal

pub returns-clause-is_sent : goal.returns-clause-is_sent
returns-clause-is_sent c =
    answer_sent c.args.bundle.now c.args.here c.args.features.now c.args.state.now c.args.to.now.command
    c.args.to.now.id c.args.request.now c.look.result c.look.ensures.answer
