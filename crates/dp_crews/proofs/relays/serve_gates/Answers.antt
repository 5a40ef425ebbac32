use Rattle.std.proofs.Common.{inl}
use Rattle.dp_crews.specs.Relays.{faults}
use Rattle.dp_crews.proofs.AllLaws.{dialed_none, untouched}
use Rattle.dp_crews.proofs.relays.serve_gates.Goals as goal

pub returns-in-Err-clause-gated : goal.returns-in-Err-clause-gated
returns-in-Err-clause-gated g c =
    dialed_none g.G.Gate g.H.Gate c.args.ides.items c.args.engines.items c.args.sizes.registrations
    c.args.sizes.sessions
    (faults (g.D.Dialer.faults c.args.dialer.now) (g.D.Dialer.faults c.dialers_of.new.dialer))
    (faults (g.P.Spawner.faults c.args.spawner.now) (g.P.Spawner.faults c.args.spawner.now)) c.in-Err.why
    c.in-Err.ensures.dialers

pub returns-in_default-clause-gated : goal.returns-in_default-clause-gated
returns-in_default-clause-gated g c =
    inl (untouched g.G.Gate c.args.ides.items, untouched g.H.Gate c.args.engines.items)
