use Rattle.std.proofs.Common.{◌≡◌, min, length, sym, ◌∙◌, arith}
use Rattle.std.specs.Prelude.{is_err}
use Rattle.dp_crews.specs.Relays.{faults}
use Rattle.dp_crews.proofs.AllLaws.{all_bounded, all_served, neither, twin_refused, twinned_ok}
use Rattle.dp_crews.proofs.relays.serve_all.Goals as goal

pub returns-then-lacks_twin-clause-served : goal.returns-then-lacks_twin-clause-served
returns-then-lacks_twin-clause-served g c =
    twin_refused g.G.Gate g.H.Gate c.args.ides c.args.engines c.args.sizes.registrations c.args.sizes.sessions
    (faults (g.D.Dialer.faults c.args.dialer.now) (g.D.Dialer.faults c.args.dialer.now))
    (faults (g.P.Spawner.faults c.args.spawner.now) (g.P.Spawner.faults c.args.spawner.now)) (omega arith)
    c.twins_of-asked.result.1.items c.twins_of-served.result.1.items c.twins_of-asked.result.0
    c.twins_of-served.result.0
    _ _ c.twins_of-asked.ensures c.twins_of-served.ensures (sym c.lacks_twin.ensures ∙ c.if-lacks_twin.true)

pub returns-clause-served : goal.returns-clause-served
returns-clause-served g c =
    let fine = neither (is_err c.twins_of-asked.result.0) (is_err c.twins_of-served.result.0)
    (sym c.lacks_twin.ensures ∙ c.if-lacks_twin.false) in
    let a = twinned_ok g.G.Gate c.args.ides c.twins_of-asked.result.0 _ c.twins_of-asked.result.1.items fine.0
    c.twins_of-asked.ensures in
    let b = twinned_ok g.H.Gate c.args.engines c.twins_of-served.result.0 _ c.twins_of-served.result.1.items fine.1
    c.twins_of-served.ensures in
    let many : length c.twins_of-asked.result.1.items ≡ min c.args.sizes.registrations 8 =
    a.1 ∙ c.min-askers.ensures in
    let several : length c.twins_of-served.result.1.items ≡ min c.args.sizes.sessions 64 =
    b.1 ∙ c.min-servers.ensures in
    all_served g.G.Gate g.H.Gate c.args.ides c.args.engines c.args.sizes.registrations c.args.sizes.sessions
    c.twins_of-asked.result.1.items c.twins_of-served.result.1.items a.0 b.0 many several _ _ _ _ _
    c.serve_gates.ensures.later c.serve_gates.ensures.gated

pub returns-clause-bounds : goal.returns-clause-bounds
returns-clause-bounds g c =
    let fine = neither (is_err c.twins_of-asked.result.0) (is_err c.twins_of-served.result.0)
    (sym c.lacks_twin.ensures ∙ c.if-lacks_twin.false) in
    let a = twinned_ok g.G.Gate c.args.ides c.twins_of-asked.result.0 _ c.twins_of-asked.result.1.items fine.0
    c.twins_of-asked.ensures in
    let b = twinned_ok g.H.Gate c.args.engines c.twins_of-served.result.0 _ c.twins_of-served.result.1.items fine.1
    c.twins_of-served.ensures in
    all_bounded g.G.Gate g.H.Gate c.args.ides c.args.engines c.args.sizes.registrations c.args.sizes.sessions
    c.twins_of-asked.result.1.items c.twins_of-served.result.1.items a.0 b.0
    (faults (g.D.Dialer.faults c.args.dialer.now) (g.D.Dialer.faults c.serve_gates.new.dialer))
    (faults (g.P.Spawner.faults c.args.spawner.now) (g.P.Spawner.faults c.serve_gates.new.spawner)) _ _ _
    c.serve_gates.ensures.gated
