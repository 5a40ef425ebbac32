use Rattle.std.proofs.Common.{◌∷◌, codes, arith}
use Rattle.std.specs.Prelude.{decimal}
use Rattle.dp_packet.specs.Breakpoints.{resolved_attribute, state_name}
use Rattle.dp_packet.specs.declared.packet.Body.TheVariants.{Nothing}
use Rattle.dp_break.proofs.Lengths.{made_fits, set_response_fits}
use Rattle.dp_break.proofs.responses.set_response.Goals as goal

pub returns-clause-short : goal.returns-clause-short
returns-clause-short c =
    let command = c.args.to.now.command in
    let id = c.args.to.now.id in
    let small = c.ranges.id.fits in
    made_fits command id Nothing c.in_ok-attributes.attributes.items
    ((codes "state", state_name c.args.enabled) ∷ (codes "id", decimal c.args.id)
    ∷ resolved_attribute c.args.resolved) c.response.result
    c.response.ensures c.in_ok-attributes.ensures
    (set_response_fits command id c.args.to.now.command_bound c.args.to.now.id_bound c.args.enabled c.args.id
    c.args.resolved (omega (arith, small)))
