use Rattle.std.proofs.Common.{◌≢◌, ap, sym, ◌∙◌}
use Rattle.dp_engine.specs.declared.states.Phase.TheVariants.{Stopping}
use Rattle.dp_engine.specs.NextStop.{every}
use Rattle.dp_engine.specs.inner.Position.{phase_of}
use Rattle.dp_engine.proofs.KeptLaws.{counts_there, keeps_there, knows_there, machine_there, nothing_kept, passes_so}
use Rattle.dp_engine.proofs.session.Session.pass_moment.Goals as goal

pub invariant_of-self-2 : goal.invariant_of-self-2
invariant_of-self-2 g c =
    let s = c.self.inside in
    let whole = ap (λ k. k.failed) c.self.view_is ∙ c.requires.whole in
    let before : phase_of s.position ≢ Stopping = λ e. c.requires.before (sym (ap (λ k. k.phase) c.self.view_is) ∙ e) in
    let one = c.in-Ok.ensures s.bound s.writes.items s.moment (machine_there s before whole c.self.invariant.0) in
    let there = keeps_there s before every _ _ c.in-Ok.passed.reached _ _ one.goes c.place-moment.result
    c.place-moment.ensures in
    (there.0, there.1, c.self.invariant.2)

pub returns-clause-passing : goal.returns-clause-passing
returns-clause-passing g c =
    let s = c.self.inside in
    let whole = ap (λ k. k.failed) c.self.view_is ∙ c.requires.whole in
    let before : phase_of s.position ≢ Stopping = λ e. c.requires.before (sym (ap (λ k. k.phase) c.self.view_is) ∙ e) in
    let one = c.in-Ok.ensures s.bound s.writes.items s.moment (machine_there s before whole c.self.invariant.0) in
    rw (← c.self.view_is) (c.passing_by.ensures ∙ passes_so s c.args.going.now.mode c.args.going.now.depth
    c.pass_one.new.machine c.in-Ok.passed.reached c.in-Ok.passed.stops one.goes.reached one.stops)

pub returns-clause-goes : goal.returns-clause-goes
returns-clause-goes g c =
    let s = c.self.inside in
    let whole = ap (λ k. k.failed) c.self.view_is ∙ c.requires.whole in
    let before : phase_of s.position ≢ Stopping = λ e. c.requires.before (sym (ap (λ k. k.phase) c.self.view_is) ∙ e) in
    let one = c.in-Ok.ensures s.bound s.writes.items s.moment (machine_there s before whole c.self.invariant.0) in
    rw (← c.self.view_is) (knows_there s before every _ _ c.in-Ok.passed.reached _ _ one.goes c.place-moment.result
    c.place-moment.ensures)

pub returns-clause-steps : goal.returns-clause-steps
returns-clause-steps g c =
    let s = c.self.inside in
    let whole = ap (λ k. k.failed) c.self.view_is ∙ c.requires.whole in
    let before : phase_of s.position ≢ Stopping = λ e. c.requires.before (sym (ap (λ k. k.phase) c.self.view_is) ∙ e) in
    let stands = machine_there s before whole c.self.invariant.0 in
    let one = c.in-Ok.ensures s.bound s.writes.items s.moment stands in
    rw (← c.self.view_is) (counts_there s before every _ _ c.in-Ok.passed.reached _ _ one.goes c.place-moment.result
    c.place-moment.ensures stands)

pub invariant_of-self : goal.invariant_of-self
invariant_of-self g c =
    let s = c.self.inside in
    let before : phase_of s.position ≢ Stopping = λ e. c.requires.before (sym (ap (λ k. k.phase) c.self.view_is) ∙ e) in
    (nothing_kept s before c.pass_one.new.machine c.self.invariant.0, c.self.invariant.1, c.self.invariant.2)
