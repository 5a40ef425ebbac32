use Rattle.std.proofs.Common.{sym, ◌∙◌}
use Rattle.std.proofs.Common.{Ok}
use Rattle.dp_world.specs.Engines.{past_of}
use Rattle.dp_world.proofs.WorldLaws as law
use Rattle.dp_world.proofs.world.take.Goals as goal

pub pass-requires : goal.pass-requires
pass-requires g c =
    let k = g.A.Engines.known c.args.engines.now in
    let e = c.args.event.now in
    let m = c.requires in
    let w = m.world in
    let act = c.in_ok-act.act in
    let isnt = sym c.makes.ensures ∙ c.if-makes.false in
    let ready = c.in_ok-act.ensures.ready k ((past_of k m.events).link e.link) (w.each e.link) in
    let told = law.told_at k m.events e c.args.world.now.proxy c.args.world.now.links.entries w act
    c.brought.new.links.entries c.in_ok-act.ensures.others ready c.step.new.self (Ok c.in-Ok.effect)
    (c.in-Ok.ensures.answers w.came w.represents) in
    law.taken k m.events e c.args.world.now.proxy c.args.world.now.links.entries w act c.brought.new.links.entries
    c.in_ok-act.ensures.others ready c.step.new.self isnt c.in-Ok.effect told.1

pub returns-in-Ok : goal.returns-in-Ok
returns-in-Ok g c = λ events w fits.
    let k = g.A.Engines.known c.args.engines.now in
    let e = c.args.event.now in
    let act = c.in_ok-act.act in
    let isnt = sym c.makes.ensures ∙ c.if-makes.false in
    let ready = c.in_ok-act.ensures.ready k ((past_of k events).link e.link) (w.each e.link) in
    let told = law.told_at k events e c.args.world.now.proxy c.args.world.now.links.entries w act
    c.brought.new.links.entries c.in_ok-act.ensures.others ready c.step.new.self (Ok c.in-Ok.effect)
    (c.in-Ok.ensures.answers w.came w.represents) in
    law.on_ok c.pass.result (λ after. law.passed_stands k events e c.args.world.now.proxy c.args.world.now.links.entries
    w act c.brought.new.links.entries c.in_ok-act.ensures.others ready c.step.new.self isnt
    c.pass.new.links.entries c.in-Ok.effect told.1 (c.in-Ok.ensures.stands w.came w.represents)
    (c.in_ok-act.ensures.passes isnt) c.pass.ensures.others after) c.pass.ensures.after

pub returns-then-makes : goal.returns-then-makes
returns-then-makes g c = λ events w fits.
    let k = g.A.Engines.known c.args.engines.now in
    let e = c.args.event.now in
    let act = c.in_ok-act.act in
    let is = sym c.makes.ensures ∙ c.if-makes.true in
    let new = law.is_new k events e c.args.world.now.proxy c.args.world.now.links.entries w fits is in
    let ready = c.in_ok-act.ensures.ready k ((past_of k events).link e.link) (w.each e.link) in
    let told = law.told_at k events e c.args.world.now.proxy c.args.world.now.links.entries w act
    c.brought.new.links.entries c.in_ok-act.ensures.others ready c.step.new.self (Ok c.in-Ok.effect)
    (c.in-Ok.ensures.answers w.came w.represents) in
    let none = law.mid_none k events e c.args.world.now.proxy c.args.world.now.links.entries w act
    c.brought.new.links.entries c.in_ok-act.ensures.others ready c.step.new.self new in
    let at_new = law.made_told k events e c.args.world.now.proxy c.args.world.now.links.entries w act
    c.brought.new.links.entries c.in_ok-act.ensures.others ready c.step.new.self c.in-Ok.effect new told.1 in
    law.on_ok c.make.result (λ put. law.made_stands k events e c.args.world.now.proxy c.args.world.now.links.entries w
    act c.brought.new.links.entries c.in_ok-act.ensures.others ready c.step.new.self
    c.make.new.links.entries is new (c.in-Ok.ensures.stands w.came w.represents) put)
    (c.make.ensures (past_of k events).journal is none at_new)

pub returns : goal.returns
returns g c = λ events w fits.
    let k = g.A.Engines.known c.args.engines.now in
    let e = c.args.event.now in
    law.broken_told k events e c.args.world.now.proxy c.args.world.now.links.entries w c.in_ok-act.act
    c.brought.new.links.entries c.in_ok-act.ensures.others
    (c.in_ok-act.ensures.ready k ((past_of k events).link e.link) (w.each e.link)) c.step.new.self
    c.in-Err-BadFrame.field-0 c.in-Err-BadFrame.field-0-0 c.in-Err-BadFrame.field-0-is
    (c.in-Err-BadFrame.ensures.answers w.came w.represents) (c.in-Err-BadFrame.ensures.stands w.came w.represents)
    (law.is_new k events e c.args.world.now.proxy c.args.world.now.links.entries w fits)
