use Rattle.std.proofs.Common.{◌∷◌, [], codes}
use Rattle.dp_packet.specs.declared.packet.Body.TheVariants.{Nothing}
use Rattle.dp_engine.proofs.ResponseSizes.{made_fits, set_fits}
use Rattle.dp_engine.proofs.responses.feature_set.Goals as goal

pub returns-clause-fits : goal.returns-clause-fits
returns-clause-fits c =
    let command = c.args.to.now.command in
    let id = c.args.to.now.id in
    made_fits command id c.in_ok-attributes.attributes ((codes "feature", c.args.feature.now)
    ∷ (codes "success", codes "1") ∷ []) Nothing c.response.result c.response.ensures
    c.in_ok-attributes.ensures (set_fits command id c.args.to.now.command_bound c.args.to.now.id_bound
    c.args.feature.now c.requires.feature)
