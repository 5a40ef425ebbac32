use Rattle.std.proofs.Common.{◌≡◌, ℕ, List, subst}
use Rattle.std.specs.Prelude.{Ok, None}
use Rattle.dp_packet.specs.declared.packet.Body.TheVariants as body
use Rattle.dp_packet.specs.declared.property.Property.{Property}
use Rattle.dp_view.specs.declared.paging.Paging.{Paging}
use Rattle.dp_view.specs.Answers.{Refuses}
use Rattle.dp_view.specs.Properties.{context_at}
use Rattle.dp_view_limits.specs.Limits.{limited_context, properties_size}
use Rattle.dp_view_commands.specs.Views.{Part, context_attributes, paging}
use Rattle.dp_view_commands.specs.inner.Responses.{around}
use Rattle.dp_view_commands.proofs.Limited.{made_answers, refused_answers}
use Rattle.dp_view_commands.proofs.Sizes.{filled_is}
use Rattle.dp_view_commands.proofs.values.context_response.Goals as goal

abbrev part : ℕ → List Property → Part
part id shown = (context_attributes id, body.Properties shown)

pub returns-in-Ok : goal.returns-in-Ok
returns-in-Ok c =
    let state = c.args.state.now in
    let id = c.args.id in
    let command = c.args.to.now.command in
    let number = c.args.to.now.id in
    let room = c.context_room-room.result in
    let made : limited_context state c.args.level id (paging c.args.features.now None 0) room ≡ Ok c.in-Ok.shown =
    subst (λ (p : Paging). limited_context state c.args.level id p room ≡ Ok c.in-Ok.shown) c.paging-p.ensures
    c.in-Ok.ensures.answer in
    made_answers properties_size (part id) command number room
    (around command number (context_attributes id)) c.context_room-room.ensures
    (filled_is command number (context_attributes id))
    (context_at state c.args.level id (paging c.args.features.now None 0)) c.in-Ok.shown c.context_filled.result made
    c.context_filled.ensures

pub returns-in-Err : goal.returns-in-Err
returns-in-Err c =
    let state = c.args.state.now in
    let id = c.args.id in
    let command = c.args.to.now.command in
    let number = c.args.to.now.id in
    let room = c.context_room-room.result in
    let refused : Refuses c.in-Err.why (limited_context state c.args.level id (paging c.args.features.now None 0) room)
    =
    subst (λ (p : Paging). Refuses c.in-Err.why (limited_context state c.args.level id p room)) c.paging-p.ensures
    c.in-Err.ensures.answer in
    refused_answers properties_size (part id) command number room
    (around command number (context_attributes id)) c.context_room-room.ensures
    (filled_is command number (context_attributes id))
    (context_at state c.args.level id (paging c.args.features.now None 0)) c.in-Err.why refused
