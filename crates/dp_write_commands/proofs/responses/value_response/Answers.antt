use Rattle.std.proofs.Common.{◌≡◌, subst}
use Rattle.std.specs.Prelude.{Ok, Err}
use Rattle.dp_value.specs.Value.{data_of}
use Rattle.dp_view.specs.declared.paging.Paging.{Paging}
use Rattle.dp_view.specs.Answers.{Refuses}
use Rattle.dp_view_limits.specs.Limits.{limited_shown}
use Rattle.dp_write_commands.proofs.Sizes.{refused_is, shown_is}
use Rattle.dp_write_commands.proofs.responses.value_response.Goals as goal

pub returns-in-Ok : goal.returns-in-Ok
returns-in-Ok c =
    let value = c.args.value.now in
    let room = c.room.result in
    shown_is c.args.features.now c.args.to.now.command c.args.to.now.id value room c.room.ensures c.in-Ok.made
    c.showing.result
    (subst (λ (p : Paging). limited_shown (data_of value) p room ≡ Ok c.in-Ok.made) c.paging.ensures
    c.in-Ok.ensures.answer) c.showing.ensures

pub returns-in-Err-Code : goal.returns-in-Err-Code
returns-in-Err-Code c =
    let value = c.args.value.now in
    let room = c.room.result in
    let code = c.in-Err-Code.field-0-0 in
    refused_is c.args.features.now c.args.to.now.command c.args.to.now.id value room c.room.ensures code
    (subst (λ (p : Paging). limited_shown (data_of value) p room ≡ Err code) c.paging.ensures
    (subst (λ why. Refuses why (limited_shown (data_of value) c.paging.result room)) c.in-Err-Code.field-0-is
    c.in-Err-Code.ensures.answer))
