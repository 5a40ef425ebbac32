use Rattle.std.proofs.Common.{◌∷◌, [], codes}
use Rattle.dp_packet.specs.Parts.{flag}
use Rattle.dp_packet.specs.declared.packet.Body.TheVariants.{Nothing}
use Rattle.dp_engine.proofs.ResponseSizes.{made_fits, success_fits}
use Rattle.dp_engine.proofs.responses.success.Goals as goal

pub returns-clause-fits : goal.returns-clause-fits
returns-clause-fits c =
    let command = c.args.to.now.command in
    let id = c.args.to.now.id in
    made_fits command id c.in_ok-attributes.attributes ((codes "success", flag c.args.success) ∷ []) Nothing
    c.response.result c.response.ensures
    c.in_ok-attributes.ensures (success_fits command id c.args.to.now.command_bound c.args.to.now.id_bound
    c.args.success)
