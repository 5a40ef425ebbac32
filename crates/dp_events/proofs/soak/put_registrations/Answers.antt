use Rattle.std.proofs.Common.{◌<◌, ◌++◌, arith}
use Rattle.dp_events.specs.Soak.{registrations}
use Rattle.dp_events.proofs.SoakLaws.{ides_turn}
use Rattle.dp_events.proofs.soak.put_registrations.Goals as goal

pub ides-preserved : goal.ides-preserved
ides-preserved c =
    let some : 0 < c.ides.left = omega arith in (
      omega (arith, c.ides.invariant.0),
      ides_turn c.ides.events.items c.put_registration.new.events.items
          (c.args.events.now.items ++ registrations 1 8) c.ides.number c.ides.left some
          c.in_ok-put_registration.ensures c.ides.invariant.1,
    )
