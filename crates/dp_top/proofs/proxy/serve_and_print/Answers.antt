use Rattle.std.proofs.Common.{refl, sym, subst, ◌∙◌}
use Rattle.dp_outside.specs.Changes.{change}
use Rattle.dp_crews.specs.Relays.{faults}
use Rattle.dp_words.specs.Commands.{service_seen}
use Rattle.dp_top.specs.declared.failures.Failure.{Failure}
use Rattle.dp_top.specs.Proxy.{ProxyFails}
use Rattle.dp_top.specs.Seen.{net_seen}
use Rattle.dp_top.proofs.ProxyLaws.{undone}
use Rattle.dp_top.proofs.proxy.serve_and_print.Goals as goal

pub returns-in-Err-clause-ends : goal.returns-in-Err-clause-ends
returns-in-Err-clause-ends g c =
    let out = change g.K.Sink.taken g.K.Sink.faults c.args.out.now c.args.out.now in
    let old = net_seen g.N.Dialer c.args.net.now in
    let new = net_seen g.N.Dialer c.serve_ports.new.net in
    let starts = faults (g.P.Spawner.faults c.args.spawner.now) (g.P.Spawner.faults c.serve_ports.new.spawner) in
    subst (λ (why : Failure). ProxyFails why c.unnamed.result.name.now (service_seen c.args.request) out old new starts)
    (sym (c.unnamed.ensures.failure ∙ c.failure_of.ensures))
    (undone (service_seen c.args.request) out old new starts c.in-Err.why c.unnamed.result.name.now
    c.unnamed.ensures.name c.in-Err.ensures.came (refl, refl))
