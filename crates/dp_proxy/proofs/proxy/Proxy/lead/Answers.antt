use Rattle.std.proofs.Common.{ℕ, List, sym, subst}
use Rattle.dp_proxy.specs.declared.kept.Kept.{Kept}
use Rattle.dp_proxy.specs.Invariant.{Keeps, Represents, AreSound}
use Rattle.dp_proxy.proofs.StepLaws.{sound_taken, sound_put, represents_put}
use Rattle.dp_proxy.proofs.proxy.Proxy.lead.Goals as goal

pub invariant_of-self : goal.invariant_of-self
invariant_of-self c =
    sound_taken c.self.inside.registry c.handle.new.registry c.self.inside.links c.take-kept.new.self
    c.self.inside.failed c.args.event.now.link c.take-kept.result
    c.take-kept.ensures.kept c.take-kept.ensures.left c.self.invariant c.in_err-step.ensures.others

pub invariant_of-self-in_err-put : goal.invariant_of-self-in_err-put
invariant_of-self-in_err-put c =
    subst (λ (l : List (ℕ × Kept)). AreSound (record
    { journal = c.handle.new.registry; links = l; failed = c.self.inside.failed })) (sym c.in_err-put.ensures.err)
    (sound_taken c.self.inside.registry c.handle.new.registry c.self.inside.links c.take-kept.new.self
    c.self.inside.failed c.args.event.now.link c.take-kept.result
    c.take-kept.ensures.kept c.take-kept.ensures.left c.self.invariant c.in_ok-step.ensures.others)

pub invariant_of-self-2 : goal.invariant_of-self-2
invariant_of-self-2 c =
    sound_put c.self.inside.registry c.handle.new.registry c.self.inside.links c.take-kept.new.self
    c.self.inside.failed c.args.event.now.link
    c.take-kept.result
    c.take-kept.ensures.kept c.take-kept.ensures.left c.self.invariant c.in_ok-step.ensures.others c.put.new.self
    c.in_ok-step.step.kept
    c.in_ok-put.ensures.ok c.in_ok-step.ensures.made c.in_ok-step.ensures.sound c.in_ok-step.ensures.own

pub returns-clause-stands : goal.returns-clause-stands
returns-clause-stands c = λ events stands.
    represents_put c.self.inside.registry c.handle.new.registry c.self.inside.links c.take-kept.new.self c.put.new.self
    c.self.inside.failed c.args.event.now c.take-kept.result
    c.in_ok-step.step c.take-kept.ensures.kept c.take-kept.ensures.left c.in_ok-put.ensures.ok c.in_ok-step.ensures.made
    c.in_ok-step.ensures.leads events
    (subst (λ (k : Keeps). Represents k events) (sym c.self.view_is) stands)
