use Rattle.std.proofs.Common.{◌<◌, List, [], take, length, sym, subst, arith}
use Rattle.std.proofs.lemmas.List.{take_all}
use Rattle.dp_events.specs.declared.event.Event.{Event}
use Rattle.dp_world.specs.Engines.{past_of}
use Rattle.dp_world.specs.inner.KeptLinks.{IsShownAt, IsWorldAfter, kept_at}
use Rattle.dp_world.proofs.WorldLaws.{fit_item, take_item}
use Rattle.dp_world.proofs.world.follow.Goals as goal

pub events-init : goal.events-init
events-init g c = c.new-world.ensures (g.A.Engines.known c.args.engines.now)

pub take-requires : goal.take-requires
take-requires g c = record {
  events = take c.events.event-index c.args.events.now;
  world = c.events.invariant;
  fits =
      fit_item [] c.args.events.now c.events.event-index c.event-item.result c.requires
      (omega arith) c.event-item.is;
}

pub events-preserved : goal.events-preserved
events-preserved g c =
    let i = c.events.event-index in
    let less : i < length c.args.events.now = omega arith in
    subst (λ (es : List Event). IsWorldAfter (g.A.Engines.known c.args.engines.now) es c.take.new.world.proxy
    c.take.new.world.links.entries)
    (sym (take_item c.args.events.now i c.event-item.result less c.event-item.is))
    (c.in-Ok.ensures (take i c.args.events.now) c.events.invariant
    (fit_item [] c.args.events.now i c.event-item.result c.requires less c.event-item.is))

pub returns-clause-shown : goal.returns-clause-shown
returns-clause-shown g c = λ number.
    let i = c.events.event-index in
    subst (λ (es : List Event). IsShownAt (g.A.Engines.known c.args.engines.now)
    ((past_of (g.A.Engines.known c.args.engines.now) es).link number) (kept_at c.events.world.links.entries number))
    (take_all i c.args.events.now (omega arith)) (c.events.invariant.each number)
