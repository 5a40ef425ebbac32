use Rattle.std.proofs.Common.{rules, ◌≡◌, ℕ, Ok, Err, ap, refl, sym, ◌∙◌}
use Rattle.dp_command.specs.declared.command.Request.TheVariants.{Look}
use Rattle.dp_view_commands.specs.Views.{view_response}
use Rattle.dp_engine.specs.Session.{program_of}
use Rattle.dp_engine.specs.inner.Position.{known}
use Rattle.dp_engine.proofs.TurnLaws.{fits_known, own_refused, view_is, view_refused, view_responds}
use Rattle.dp_engine.proofs.session.Session.show.Goals as goal

pub tell-requires : goal.tell-requires
tell-requires c = let sent = c.in-Ok.ensures.is_sent in fits_known c.in-Ok.response sent.known sent.short

pub returns-in-Ok : goal.returns-in-Ok
returns-in-Ok c =
    let s = c.self.inside in
    let state = known s.bundle.now s.bound s.writes.items s.moment s.position s.features s.stdout s.breaks s.failed in
    let command = c.args.to.now.command in
    let id = c.args.to.now.id in
    let is = view_is state c.in_ok-program.program.now c.file.result command id c.args.request.now
    (c.in_ok-program.ensures.state ∙ ap program_of (sym c.self.view_is)) c.file.ensures in
    rw (← c.self.view_is) (view_responds {E = ℕ} state command id c.args.request.now c.in-Ok.response (Ok c.tell.result)
    (is ∙ c.in-Ok.ensures.answer) c.tell.ensures)

pub returns-in-Err-Code : goal.returns-in-Err-Code
returns-in-Err-Code c =
    let s = c.self.inside in
    let state = known s.bundle.now s.bound s.writes.items s.moment s.position s.features s.stdout s.breaks s.failed in
    let command = c.args.to.now.command in
    let id = c.args.to.now.id in
    let request = c.args.request.now in
    let is = view_is state c.in_ok-program.program.now c.file.result command id request
    (c.in_ok-program.ensures.state ∙ ap program_of (sym c.self.view_is)) c.file.ensures in
    let answer : view_response s.bundle.now c.file.result s.features c.in_ok-program.program.now command id request ≡
    Err c.in-Err-Code.code = search rules in
    rw (← c.self.view_is) (own_refused state state command id (Look request) c.in-Err-Code.code c.refuse.result
    (view_refused state command id request c.in-Err-Code.code (is ∙ answer)) refl c.refuse.ensures)
