use Rattle.std.proofs.Common.{ap}
use Rattle.dp_top.proofs.AsyncLaws.{bound_within}
use Rattle.dp_top.proofs.ProxyLaws.{served_within}
use Rattle.dp_top.proofs.ReplayReports.{complete_with}
use Rattle.dp_top.proofs.SoakLaws.{count_within}
use Rattle.dp_words.specs.Words.{IsAsync, IsProxy, IsSoak}
use Rattle.dp_words.specs.Commands.{address_seen, invocation_seen, service_seen, task_of}
use Rattle.dp_top.proofs.commands.carry_out.Goals as goal

pub returns-in-Ide-clause-fetched : goal.returns-in-Ide-clause-fetched
returns-in-Ide-clause-fetched g c = rw c.in-Ide.is (1, c.ide.ensures.fetched)

pub returns-in-Replay-clause-replay_held : goal.returns-in-Replay-clause-replay_held
returns-in-Replay-clause-replay_held g c = λ events ask same. rw (← c.objects-in-Replay.view_is)
    (complete_with events c.in-Replay.request.events.now ask (invocation_seen c.in-Replay.request.program)
    (task_of c.args.command) c.replay.result _ _
    (ap task_of c.in-Replay.is) same (record { by_files = c.replay.ensures.held }))

pub listening-requires-clause-bound : goal.listening-requires-clause-bound
listening-requires-clause-bound g c =
    let asks : IsAsync c.requires.invocation.0 (address_seen c.in-Async.request.address)
    c.in-Async.request.talk.key.now (invocation_seen c.in-Async.request.talk.program) = rw c.in-Async.is at
    c.requires.invocation.1 in
    λ lifetimes live. bound_within asks.behind _ asks.dials.invocation

pub soak-requires-clause-some : goal.soak-requires-clause-some
soak-requires-clause-some g c =
    let asks : IsSoak c.requires.invocation.0 c.in-Soak.request.count c.in-Soak.request.seed = rw c.in-Soak.is at
    c.requires.invocation.1 in
    (count_within asks.number c.in-Soak.request.count asks.is_count).0

pub soak-requires-clause-most : goal.soak-requires-clause-most
soak-requires-clause-most g c =
    let asks : IsSoak c.requires.invocation.0 c.in-Soak.request.count c.in-Soak.request.seed = rw c.in-Soak.is at
    c.requires.invocation.1 in
    (count_within asks.number c.in-Soak.request.count asks.is_count).1

pub proxy-requires-clause-registrations : goal.proxy-requires-clause-registrations
proxy-requires-clause-registrations g c =
    let asks : IsProxy c.requires.invocation.0 (service_seen c.in-Proxy.request) = rw c.in-Proxy.is at
    c.requires.invocation.1 in
    λ lifetimes live. served_within asks.registrations c.in-Proxy.request.registrations asks.is_registrations

pub proxy-requires-clause-sessions : goal.proxy-requires-clause-sessions
proxy-requires-clause-sessions g c =
    let asks : IsProxy c.requires.invocation.0 (service_seen c.in-Proxy.request) = rw c.in-Proxy.is at
    c.requires.invocation.1 in
    λ lifetimes live. served_within asks.sessions c.in-Proxy.request.sessions asks.is_sessions
