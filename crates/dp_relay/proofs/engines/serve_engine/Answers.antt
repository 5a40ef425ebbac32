use Rattle.std.proofs.Common.{List, ℕ, None, sym, subst}
use Rattle.std.specs.Prelude.{option_map}
use Rattle.dp_relay.specs.declared.ends.RelayEnd.{RelayEnd}
use Rattle.dp_relay.specs.Ends.{Ends, ends}
use Rattle.dp_relay.specs.Engines.{standing, ComesWith, EngineServed}
use Rattle.dp_relay.specs.inner.Openings.{JoinEnds}
use Rattle.dp_relay.proofs.EngineLaws.{finished, had_session, served_unasked, served_refused, served_joined}
use Rattle.dp_relay.proofs.engines.serve_engine.Goals as goal

pub returns-in-Err-clause-served : goal.returns-in-Err-clause-served
returns-in-Err-clause-served g c =
    let s = g.S.Source in
    let k = g.K.Sink in
    let dials = g.D.Dialer.dials c.args.dialer.now in
    let dialed = g.D.Dialer.faults c.args.dialer.now in
    let starts = g.P.Spawner.starts c.args.spawner.now in
    let started = g.P.Spawner.faults c.args.spawner.now in
    let v = c.args.clerk.now in
    let x = standing (ends s k c.args.source c.args.sink) dials dialed starts started in
    let read = c.first_key.new.source in
    subst (λ (e : Ends). EngineServed v v x (standing e dials dialed starts started) None c.in-Err.end)
    (sym (finished s k read c.args.sink c.finish.new.self c.finish.ensures.taken c.finish.ensures.faults))
    (served_unasked v v x (ends s k read c.args.sink) c.in-Err.ensures.read c.in-Err.ensures.gives
    c.first_key.new.lane c.in-Err.end c.in-Err.ensures.opens)

pub returns-in-Err-admit-clause-served : goal.returns-in-Err-admit-clause-served
returns-in-Err-admit-clause-served g c =
    let s = g.S.Source in
    let k = g.K.Sink in
    let dials = g.D.Dialer.dials c.args.dialer.now in
    let dialed = g.D.Dialer.faults c.args.dialer.now in
    let starts = g.P.Spawner.starts c.args.spawner.now in
    let started = g.P.Spawner.faults c.args.spawner.now in
    let v = c.args.clerk.now in
    let w = c.admit.new.clerk in
    let x = standing (ends s k c.args.source c.args.sink) dials dialed starts started in
    let read = c.first_key.new.source in
    let sink = c.finish-in-Err-admit.new.self in
    let o = c.in-Ok.ensures in
    let key = c.as_slice.result.now in
    let comes = subst (λ (l : List ℕ). ComesWith o.read l) (sym c.as_slice.ensures) o.opens.2 in
    subst (λ (e : Ends). EngineServed v w x (standing e dials dialed starts started) None c.refused_end.result)
    (sym (finished s k read c.args.sink sink c.finish-in-Err-admit.ensures.taken c.finish-in-Err-admit.ensures.faults))
    (subst (λ (e : RelayEnd). EngineServed v w x (standing (ends s k read c.args.sink) dials dialed starts started)
    None e)
    (sym c.refused_end.ensures)
    (served_refused v w x (ends s k read c.args.sink) o.read o.gives key comes o.opens.3 c.in-Err-admit.why
    c.in-Err-admit.ensures.called))

pub returns-clause-served : goal.returns-clause-served
returns-clause-served g c =
    let s = g.S.Source in
    let k = g.K.Sink in
    let dialer = g.D.Dialer in
    let spawner = g.P.Spawner in
    let before = c.args in
    let done = c.join_ide-ended in
    let v = c.args.clerk.now in
    let u = c.admit.new.clerk in
    let w = c.dismiss.new.clerk in
    let pass = c.in-Ok-admit.pass in
    let read = ends s k c.first_key.new.source c.args.sink in
    let x = standing (ends s k before.source before.sink) (dialer.dials before.dialer.now)
    (dialer.faults before.dialer.now) (spawner.starts before.spawner.now) (spawner.faults before.spawner.now) in
    let m = standing read (dialer.dials before.dialer.now)
    (dialer.faults before.dialer.now) (spawner.starts before.spawner.now) (spawner.faults before.spawner.now) in
    let y = standing (ends s k done.result.1 done.result.2) (dialer.dials done.new.dialer)
    (dialer.faults done.new.dialer) (spawner.starts done.new.spawner) (spawner.faults done.new.spawner) in
    let ide = option_map (λ two. ends g.D.In.Source g.D.Out.Sink two.0 two.1) done.result.3 in
    let o = c.in-Ok.ensures in
    let key = c.as_slice.result.now in
    let comes = subst (λ (l : List ℕ). ComesWith o.read l) (sym c.as_slice.ensures) o.opens.2 in
    served_joined v w x read o.read o.gives key comes o.opens.3 y pass ide done.result.0
    (had_session v u w key pass c.in-Ok-admit.ensures.called c.dismiss.ensures)
    (subst (λ (l : List ℕ). JoinEnds l m y pass ide done.result.0) o.opens.1 done.ensures.joined)
