use Rattle.std.proofs.Common.{refl, subst}
use Rattle.dp_proxy.specs.inner.Acts.{Passes}
use Rattle.dp_proxy.proofs.ActLaws.{on_leads, closed_leads, broken_leads, dismissed_leaves}
use Rattle.dp_proxy.proofs.acts.go_on.Goals as goal

pub returns-in-Answered-clause-leads : goal.returns-in-Answered-clause-leads
returns-in-Answered-clause-leads c = λ key acts follow.
    let p = c.in_ok-passing.ensures acts follow in
    on_leads c.args.registry.now c.args.registry.now key c.args.pass acts c.args.act.now c.pass.new.up c.pass.new.down
    c.in-Answered.effect
    (subst (Passes acts c.args.act.now) c.in-Answered.is p.0) p.1 refl

pub returns-in-Closed-clause-leads : goal.returns-in-Closed-clause-leads
returns-in-Closed-clause-leads c = λ key acts follow.
    let p = c.in_ok-passing.ensures acts follow in
    closed_leads c.args.registry.now c.dismiss.new.self key c.args.pass acts c.args.act.now
    (subst (Passes acts c.args.act.now) c.in-Closed.is p.0) c.dismiss.ensures

pub returns-in-Closed-clause-others : goal.returns-in-Closed-clause-others
returns-in-Closed-clause-others c =
    dismissed_leaves c.args.registry.now c.dismiss.new.self c.args.pass c.args.up c.args.down c.dismiss.ensures

pub returns-in-Broken-clause-leads : goal.returns-in-Broken-clause-leads
returns-in-Broken-clause-leads c = λ key acts follow.
    let p = c.in_ok-passing.ensures acts follow in
    broken_leads c.args.registry.now c.dismiss-in-Broken.new.self key c.args.pass acts c.args.act.now c.in-Broken.offset
    (subst (Passes acts c.args.act.now) c.in-Broken.is p.0) c.dismiss-in-Broken.ensures

pub returns-in-Broken-clause-others : goal.returns-in-Broken-clause-others
returns-in-Broken-clause-others c =
    dismissed_leaves c.args.registry.now c.dismiss-in-Broken.new.self c.args.pass c.args.up c.args.down
    c.dismiss-in-Broken.ensures
