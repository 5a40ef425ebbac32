use Rattle.std.proofs.Common.{rules, ◌≡◌, ℕ, Ok, Err, ap, subst, ◌∙◌}
use Rattle.dp_command.specs.declared.command.Request.TheVariants.{Write}
use Rattle.dp_state.specs.declared.state.State.{State}
use Rattle.dp_write_commands.specs.Responses.{write_response}
use Rattle.dp_engine.specs.inner.KeptWrites.{IsKeptWrite}
use Rattle.dp_engine.proofs.KeptLaws.{program_is, state, with_kept, write_is_refused, write_stays, write_turn}
use Rattle.dp_engine.proofs.NewWrites.{deep_kept, machine_kept}
use Rattle.dp_engine.proofs.TurnLaws.{fits_known, own_refused}
use Rattle.dp_engine.proofs.session.Session.write.Goals as goal

pub tell-requires : goal.tell-requires
tell-requires c = let sent = c.in-Ok.ensures.is_sent in fits_known c.in-Ok.response sent.known sent.short

pub invariant_of-self : goal.invariant_of-self
invariant_of-self c =
    let s = c.self.inside in
    let at = ap (λ k. k.phase) c.self.view_is ∙ c.requires in
    let after = c.accept-made.new.program in
    let kept = c.accept-made.new.writes.items in
    let command = c.args.to.now.command in
    let id = c.args.to.now.id in
    let made = subst (λ (p : State). IsKeptWrite s.bundle.now s.features p after s.writes.items kept s.moment command id
    c.args.request.now c.in-Ok.response) c.state_mut.ensures.state c.in-Ok.ensures.answer in (
      machine_kept s.bundle.now s.bound s.features s.machine after s.writes.items kept s.moment command id
          c.args.request.now c.in-Ok.response made s.failed s.position at c.self.invariant.0,
      deep_kept s.bundle.now s.bound s.features s.machine after s.writes.items kept s.moment command id
          c.args.request.now c.in-Ok.response made s.depth c.self.invariant.1,
      c.self.invariant.2,
    )

pub returns-in-Ok-clause-turn : goal.returns-in-Ok-clause-turn
returns-in-Ok-clause-turn c =
    let s = c.self.inside in
    let after = c.accept-made.new.program in
    let kept = c.accept-made.new.writes.items in
    let command = c.args.to.now.command in
    let id = c.args.to.now.id in
    rw (← c.self.view_is) (write_turn s {E = ℕ} after kept command id c.args.request.now c.in-Ok.response
    (Ok c.tell.result) (program_is s c.if-self.false c.self.invariant.0)
    (subst (λ (p : State). IsKeptWrite s.bundle.now s.features p after s.writes.items kept s.moment command id
    c.args.request.now c.in-Ok.response) c.state_mut.ensures.state c.in-Ok.ensures.answer) c.tell.ensures)

pub returns-in-Err-Code-clause-turn : goal.returns-in-Err-Code-clause-turn
returns-in-Err-Code-clause-turn c =
    let s = c.self.inside in
    let kept = c.accept-made.new.writes.items in
    let command = c.args.to.now.command in
    let id = c.args.to.now.id in
    let request = c.args.request.now in
    let code = c.in-Err-Code.code in
    let told : write_response s.bundle.now s.features s.machine.state command id request ≡ Err code = search rules in
    let same : kept ≡ s.writes.items = search rules in
    rw (← c.self.view_is) (own_refused (state s) (with_kept s kept) command id (Write request) code c.refuse.result
    (write_is_refused s command id request code (program_is s c.if-self.false c.self.invariant.0) told)
    (ap (with_kept s) same) c.refuse.ensures)

pub returns-in-Ok-clause-stays : goal.returns-in-Ok-clause-stays
returns-in-Ok-clause-stays c =
    rw (← c.self.view_is) (write_stays c.self.inside c.accept-made.new.writes.items
    (ap (λ k. k.phase) c.self.view_is ∙ c.requires))
