use Rattle.std.proofs.Common.{◌≢◌, ap, drop, length, sym, ◌∙◌}
use Rattle.dp_engine.specs.declared.states.Phase.TheVariants.{Stopping}
use Rattle.dp_engine.specs.inner.Position.{phase_of}
use Rattle.dp_engine.proofs.KeptLaws.{counts_left, machine_there, nothing_kept, program_is, state}
use Rattle.dp_engine.proofs.TurnLaws.{rest_is}
use Rattle.dp_engine.proofs.session.Session.run_rest.Goals as goal

pub returns-in_ok-rest-in-Ok-clause-rest : goal.returns-in_ok-rest-in-Ok-clause-rest
returns-in_ok-rest-in-Ok-clause-rest g c =
    let s = c.self.inside in
    let before : phase_of s.position ≢ Stopping = λ e. c.requires (sym (ap (λ k. k.phase) c.self.view_is) ∙ e) in
    let stands = machine_there s before c.if-self.false c.self.invariant.0 in
    rw (← c.self.view_is) (rest_is (state s) s.machine.state c.len-shown.result c.in_ok-rest-in-Ok.rest
    (program_is s c.if-self.false c.self.invariant.0)
    (c.len-shown.ensures ∙ ap (λ p. length p.output) c.state.ensures)
    (c.in_ok-rest-in-Ok.ensures ∙ c.tail-written.ensures ∙ ap (drop c.len-shown.result) (c.as_slice.ensures
    ∙ ap (λ p. p.output) (c.state-in-Ok.ensures
    ∙ (c.in-Ok.ensures.end s.bundle.now s.bound s.writes.items s.moment stands).1))))

pub returns-in_ok-rest-in-Ok-clause-outcome : goal.returns-in_ok-rest-in-Ok-clause-outcome
returns-in_ok-rest-in-Ok-clause-outcome g c =
    let s = c.self.inside in
    let before : phase_of s.position ≢ Stopping = λ e. c.requires (sym (ap (λ k. k.phase) c.self.view_is) ∙ e) in
    let stands = machine_there s before c.if-self.false c.self.invariant.0 in
    rw (← c.self.view_is) (c.in-Ok.ensures.end s.bundle.now s.bound s.writes.items s.moment stands).0

pub returns-in_ok-rest-in-Ok-clause-steps : goal.returns-in_ok-rest-in-Ok-clause-steps
returns-in_ok-rest-in-Ok-clause-steps g c =
    let s = c.self.inside in
    let before : phase_of s.position ≢ Stopping = λ e. c.requires (sym (ap (λ k. k.phase) c.self.view_is) ∙ e) in
    let stands = machine_there s before c.if-self.false c.self.invariant.0 in
    rw (← c.self.view_is) (counts_left s before c.args.steps.now c.run_out.new.steps stands
    (c.in-Ok.ensures.counted s.bundle.now s.bound s.writes.items s.moment stands))

pub invariant_of-self-in-Ok : goal.invariant_of-self-in-Ok
invariant_of-self-in-Ok g c =
    let s = c.self.inside in
    let before : phase_of s.position ≢ Stopping = λ e. c.requires (sym (ap (λ k. k.phase) c.self.view_is) ∙ e) in
    let stands = machine_there s before c.if-self.false c.self.invariant.0 in
    (c.in-Ok.ensures.end s.bundle.now s.bound s.writes.items s.moment stands, c.self.invariant.1, c.self.invariant.2)

pub invariant_of-self-in-Err : goal.invariant_of-self-in-Err
invariant_of-self-in-Err g c =
    let s = c.self.inside in
    let before : phase_of s.position ≢ Stopping = λ e. c.requires (sym (ap (λ k. k.phase) c.self.view_is) ∙ e) in
    (nothing_kept s before c.run_out.new.self c.self.invariant.0, c.self.invariant.1, c.self.invariant.2)
