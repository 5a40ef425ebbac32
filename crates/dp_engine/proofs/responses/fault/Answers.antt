use Rattle.std.proofs.Common.{[], ◌∙◌}
use Rattle.dp_packet.specs.declared.packet.Body.TheVariants.{Fault}
use Rattle.dp_packet.specs.Messages.{number}
use Rattle.dp_engine.proofs.ResponseSizes.{fault_fits, made_fits}
use Rattle.dp_engine.proofs.responses.fault.Goals as goal

pub returns-clause-fits : goal.returns-clause-fits
returns-clause-fits c =
    let command = c.args.to.now.command in
    let id = c.args.to.now.id in
    made_fits command id c.of.result [] (Fault (number c.args.code)) c.response.result
    (rw c.number.ensures.value at c.response.ensures) (c.of.ensures
    ∙ c.new.ensures.items) (fault_fits command id c.args.to.now.command_bound c.args.to.now.id_bound c.args.code)
