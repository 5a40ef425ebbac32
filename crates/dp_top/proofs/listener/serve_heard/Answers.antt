use Rattle.std.proofs.Common.{◌≡◌, refl, inl, inr, rules}
use Rattle.dp_async.specs.Beside.{flow_of}
use Rattle.dp_outside.specs.Changes.{change}
use Rattle.dp_outside.specs.Links.{Link, link}
use Rattle.dp_words.specs.Commands.{address_seen, invocation_seen}
use Rattle.dp_words.proofs.NameLaws.{are_named}
use Rattle.dp_top.specs.Seen.{net_seen}
use Rattle.dp_top.proofs.AsyncLaws.{attended_over, good_attended, small_attended}
use Rattle.dp_top.proofs.EngineLaws.{not_given, taken_back}
use Rattle.dp_top.proofs.listener.serve_heard.Goals as goal

pub serve_async-done-requires-clause-names : goal.serve_async-done-requires-clause-names
serve_async-done-requires-clause-names g c =
    let named =
    are_named c.args.request.talk.program.files.now c.args.bundle.now c.requires.named c.requires.session.files
    in search rules

pub returns-in-Err-clause-ends : goal.returns-in-Err-clause-ends
returns-in-Err-clause-ends g c =
    inr (inl (record {
      undialled =
          not_given (address_seen c.args.request.address) c.args.host.now _ _ c.requires.host
          (rw c.in-Err.is at c.dial.ensures.dials) c.dial.ensures.retired
          c.dial.ensures.requested c.dial.ensures.shut
          (rw c.in-Err.is at c.dial.ensures.cause).failed c.dial.ensures.returned;
      is_why = c.unnamed.ensures.failure;
      is_name = c.unnamed.ensures.name;
      out_stays = (refl, refl);
    }))

pub returns-in-Ok-clause-ends : goal.returns-in-Ok-clause-ends
returns-in-Ok-clause-ends g c =
    let given : Link = link g.N.In.Source g.N.Out.Sink c.in-Ok.source c.in-Ok.sink in
    let back : Link = link g.N.In.Source g.N.Out.Sink c.serve_async-done.result.1 c.serve_async-done.new.sink in
    let same : c.as_bytes.result.now ≡ c.args.request.talk.key.now = search rules in
    attended_over c.args.bundle.now (address_seen c.args.request.address) c.args.request.talk.key.now
    (invocation_seen c.args.request.talk.program)
    (flow_of g.N.In.Source c.in-Ok.source) (flow_of g.N.In.Source c.serve_async-done.result.1)
    (change g.N.Out.Sink.taken g.N.Out.Sink.faults c.in-Ok.sink c.serve_async-done.new.sink)
    (change g.K.Sink.taken g.K.Sink.faults c.args.out.now c.serve_async-done.new.out)
    (g.P.Spawner.faults c.args.spawner.now) (g.P.Spawner.faults c.serve_async-done.new.spawner)
    (net_seen g.N.Dialer c.args.net.now) (net_seen g.N.Dialer c.retire.new.self)
    (taken_back (address_seen c.args.request.address) c.args.host.now given back _ _ _ _
    (net_seen g.N.Dialer c.args.net.now)
    (net_seen g.N.Dialer c.dial.new.self)
    (net_seen g.N.Dialer c.retire.new.self)
    c.requires.host c.in-Ok.ensures.source c.in-Ok.ensures.sink
    c.in-Ok.ensures.dials c.dial.ensures.retired c.dial.ensures.requested c.dial.ensures.shut
    c.dial.ensures.cause.later c.dial.ensures.returned
    c.retire.ensures.dials c.retire.ensures.retired c.retire.ensures.requested c.retire.ensures.shut
    c.retire.ensures.faults
    c.retire.ensures.returned)
    c.serve_async-done.result.0 (rw same at c.serve_async-done.ensures.answers) c.judge_attended.result
    c.judge_attended.ensures

pub returns-in-Ok-clause-status : goal.returns-in-Ok-clause-status
returns-in-Ok-clause-status g c =
    small_attended c.args.bundle.now (address_seen c.args.request.address) c.as_bytes.result.now
    (invocation_seen c.args.request.talk.program) _ _ _ _ _ _
    c.serve_async-done.result.0 c.judge_attended.result c.judge_attended.ensures
    c.serve_async-done.ensures.answers

pub returns-in-Ok-clause-held : goal.returns-in-Ok-clause-held
returns-in-Ok-clause-held g c = λ made before after.
    good_attended (invocation_seen c.args.request.talk.program) c.serve_async-done.result.0 c.judge_attended.result
    c.judge_attended.ensures
