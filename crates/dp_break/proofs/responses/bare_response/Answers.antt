use Rattle.std.proofs.Common.{[]}
use Rattle.dp_packet.specs.declared.packet.Body.TheVariants.{Nothing}
use Rattle.dp_break.proofs.Lengths.{bare_response_fits, made_fits}
use Rattle.dp_break.proofs.responses.bare_response.Goals as goal

pub returns-clause-short : goal.returns-clause-short
returns-clause-short c =
    let command = c.args.to.now.command in
    let id = c.args.to.now.id in
    made_fits command id Nothing c.new.result.items [] c.response.result c.response.ensures c.new.ensures.items
    (bare_response_fits command id c.args.to.now.command_bound c.args.to.now.id_bound)
