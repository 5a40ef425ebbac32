use Rattle.std.proofs.Common.{◌≡◌, ◌∷◌, [], codes, subst}
use Rattle.std.specs.Prelude.{IfOk}
use Rattle.dp_packet.specs.declared.packet.Body.{Body}
use Rattle.dp_packet.specs.declared.packet.Response.{Response}
use Rattle.dp_engine.specs.Responses.{response, value_body}
use Rattle.dp_engine.proofs.ResponseSizes.{feature_fits_if, made_fits}
use Rattle.dp_engine.proofs.responses.feature.Goals as goal

pub returns-clause-fits : goal.returns-clause-fits
returns-clause-fits c =
    let command = c.args.to.now.command in
    let id = c.args.to.now.id in
    made_fits command id c.in_ok-attributes.attributes ((codes "feature_name", c.args.feature.now)
    ∷ (codes "supported", c.args.supported.now) ∷ []) (value_body c.args.value)
    c.response.result (subst (λ (what : Body). IfOk c.response.result
    (λ (r : Response). r ≡ response command id c.in_ok-attributes.attributes what)) c.value_body.ensures
    c.response.ensures)
    c.in_ok-attributes.ensures
    (feature_fits_if command id c.args.to.now.command_bound c.args.to.now.id_bound c.args.feature.now
    c.args.supported.now c.args.value c.requires.feature c.requires.supported c.requires.value)
