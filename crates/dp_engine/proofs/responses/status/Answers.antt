use Rattle.dp_packet.specs.declared.packet.Body.TheVariants.{Nothing}
use Rattle.dp_engine.specs.Responses.{status_attributes}
use Rattle.dp_engine.proofs.ResponseSizes.{made_fits, status_fits}
use Rattle.dp_engine.proofs.responses.status.Goals as goal

pub returns-clause-fits : goal.returns-clause-fits
returns-clause-fits c =
    let command = c.args.to.now.command in
    let id = c.args.to.now.id in
    made_fits command id c.in_ok-attributes.attributes (status_attributes c.args.status.now c.args.reason.now) Nothing
    c.response.result c.response.ensures c.in_ok-attributes.ensures
    (status_fits command id c.args.to.now.command_bound c.args.to.now.id_bound c.args.status.now c.args.reason.now
    c.requires.status c.requires.reason)
