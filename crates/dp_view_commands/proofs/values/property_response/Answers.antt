use Rattle.std.proofs.Common.{◌≡◌, [], ◌∷◌, subst}
use Rattle.std.specs.Prelude.{Ok, Err}
use Rattle.dp_packet.specs.declared.packet.Body.TheVariants as body
use Rattle.dp_packet.specs.declared.property.Property.{Property}
use Rattle.dp_view.specs.declared.paging.Paging.{Paging}
use Rattle.dp_view.specs.Answers.{AnswersAfter}
use Rattle.dp_view.specs.Named.{named_path, named_property}
use Rattle.dp_view.specs.Properties.{property_at}
use Rattle.dp_view_limits.specs.Limits.{limited_property, property_size, within}
use Rattle.dp_view_commands.specs.Views.{Part, paging}
use Rattle.dp_view_commands.specs.inner.Responses.{around}
use Rattle.dp_view_commands.proofs.Limited.{made_after, refused_after, was_there}
use Rattle.dp_view_commands.proofs.Sizes.{one_filled}
use Rattle.dp_view_commands.proofs.values.property_response.Goals as goal

abbrev part : Property → Part
part q = ([], body.Properties (q ∷ []))

pub returns-in-Ok : goal.returns-in-Ok
returns-in-Ok c =
    let state = c.args.state.now in
    let place = c.args.place.now in
    let command = c.args.to.now.command in
    let number = c.args.to.now.id in
    let room = c.property_room-room.result in
    let p : Paging = paging c.args.features.now c.args.most c.args.page in
    let made : limited_property state place.level place.context place.name p room ≡ Ok c.in-Ok.made =
    subst (λ (q : Paging). limited_property state place.level place.context place.name q room ≡ Ok c.in-Ok.made)
    c.paging-p.ensures
    (subst (λ name. limited_property state place.level place.context name c.paging-p.result room ≡ Ok c.in-Ok.made)
    c.as_slice-name.ensures c.in-Ok.ensures.answer) in
    let first = named_path state place.level place.context place.name in
    made_after property_size part command number room (around command number []) c.property_room-room.ensures
    (one_filled command number) first
    (named_property state place.level place.context place.name p) c.in-Ok.made c.property_filled.result made
    (was_there (λ path. property_at state place.level place.context path p)
    (within room property_size) first c.in-Ok.made made) c.property_filled.ensures

pub returns-in-Err : goal.returns-in-Err
returns-in-Err c =
    let state = c.args.state.now in
    let place = c.args.place.now in
    let command = c.args.to.now.command in
    let number = c.args.to.now.id in
    let room = c.property_room-room.result in
    let p : Paging = paging c.args.features.now c.args.most c.args.page in
    let first = named_path state place.level place.context place.name in
    let refused : AnswersAfter {X = Property} (λ a. a) (Err c.in-Err.why) first
    (limited_property state place.level place.context place.name p room) =
    subst (λ (q : Paging). AnswersAfter {X = Property} (λ a. a) (Err c.in-Err.why) first
    (limited_property state place.level place.context place.name q room)) c.paging-p.ensures
    (subst (λ name. AnswersAfter {X = Property} (λ a. a) (Err c.in-Err.why)
    (named_path state place.level place.context name) (limited_property state place.level place.context name
    c.paging-p.result room)) c.as_slice-name.ensures c.in-Err.ensures.answer) in
    refused_after property_size part command number room (around command number []) c.property_room-room.ensures
    (one_filled command number) first
    (named_property state place.level place.context place.name p) c.in-Err.why refused
