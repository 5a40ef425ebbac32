use Rattle.std.proofs.Common.{◌≢◌, ap, sym, ◌∙◌}
use Rattle.dp_engine.specs.declared.states.Phase.TheVariants.{Stopping}
use Rattle.dp_engine.specs.Stops.{stops}
use Rattle.dp_engine.specs.inner.Position.{phase_of}
use Rattle.dp_engine.proofs.KeptLaws.{counts_there, goes_so, keeps_there, knows_there, machine_there, nothing_kept}
use Rattle.dp_engine.proofs.session.Session.go_on_to_stop.Goals as goal

pub invariant_of-self-2 : goal.invariant_of-self-2
invariant_of-self-2 g c =
    let s = c.self.inside in
    let before : phase_of s.position ≢ Stopping = λ e. c.requires (sym (ap (λ k. k.phase) c.self.view_is) ∙ e) in
    let stands = machine_there s before c.if-self.false c.self.invariant.0 in
    let there = keeps_there s before (stops c.args.mode s.depth) _ _ c.in-Ok.reached _ _
    (c.in-Ok.ensures s.bound s.writes.items s.moment stands) c.place-moment.result c.place-moment.ensures in
    (there.0, there.1, c.self.invariant.2)

pub returns-clause-goes : goal.returns-clause-goes
returns-clause-goes g c =
    let s = c.self.inside in
    let before : phase_of s.position ≢ Stopping = λ e. c.requires (sym (ap (λ k. k.phase) c.self.view_is) ∙ e) in
    let stands = machine_there s before c.if-self.false c.self.invariant.0 in
    rw (← c.self.view_is) (knows_there s before (stops c.args.mode s.depth) _ _ c.in-Ok.reached _ _
    (c.in-Ok.ensures s.bound s.writes.items s.moment stands) c.place-moment.result c.place-moment.ensures
    ∙ goes_so s c.args.mode c.self.invariant.1)

pub returns-clause-steps : goal.returns-clause-steps
returns-clause-steps g c =
    let s = c.self.inside in
    let before : phase_of s.position ≢ Stopping = λ e. c.requires (sym (ap (λ k. k.phase) c.self.view_is) ∙ e) in
    let stands = machine_there s before c.if-self.false c.self.invariant.0 in
    rw (← c.self.view_is) (counts_there s before (stops c.args.mode s.depth) _ _ c.in-Ok.reached _ _
    (c.in-Ok.ensures s.bound s.writes.items s.moment stands) c.place-moment.result c.place-moment.ensures stands)

pub invariant_of-self : goal.invariant_of-self
invariant_of-self g c =
    let s = c.self.inside in
    let before : phase_of s.position ≢ Stopping = λ e. c.requires (sym (ap (λ k. k.phase) c.self.view_is) ∙ e) in
    (nothing_kept s before c.go_on_from.new.machine c.self.invariant.0, c.self.invariant.1, c.self.invariant.2)
