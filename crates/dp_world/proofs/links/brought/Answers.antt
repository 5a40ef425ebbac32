use Rattle.std.proofs.Common.{sym, subst}
use Rattle.dp_events.specs.declared.event.Act.{Act}
use Rattle.dp_proxy.specs.declared.events.Act.TheVariants.{Moved}
use Rattle.dp_world.specs.inner.KeptLinks.{IsReadyAt, LeadsAs, kept_at}
use Rattle.dp_world.proofs.ChangeLaws.{moved_ready}
use Rattle.dp_world.proofs.links.brought.Goals as goal

pub returns-in_ok-read-in-Move-clause-ready : goal.returns-in_ok-read-in-Move-clause-ready
returns-in_ok-read-in-Move-clause-ready g c = λ engines link shown.
    let piece = c.in_ok-read-in-Move.field-0 in
    let number = c.args.event.now.link in
    subst (λ (a : Act). IsReadyAt engines link (Moved piece) (kept_at c.read.new.links.entries number)
    × LeadsAs engines link a (Moved piece)) (sym c.in-Move.is)
    (moved_ready engines c.in-Move.count piece (kept_at c.args.links.now.entries number)
    (kept_at c.read.new.links.entries number) link shown c.in_ok-read-in-Move.ensures.read)
