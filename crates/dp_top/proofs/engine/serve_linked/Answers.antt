use Rattle.std.proofs.Common.{refl, inl, inr}
use Rattle.dp_outside.specs.Links.{Link, link}
use Rattle.dp_words.specs.Commands.{address_seen, invocation_seen}
use Rattle.dp_top.specs.Seen.{net_seen}
use Rattle.dp_top.proofs.EngineLaws.{not_given, served_over, taken_back}
use Rattle.dp_top.proofs.engine.serve_linked.Goals as goal

pub returns-in-Err-clause-ends : goal.returns-in-Err-clause-ends
returns-in-Err-clause-ends g c =
    inr (inl (record {
      undialled =
          not_given (address_seen c.args.request.address) c.args.host.now _ _ c.requires.host
          (rw c.in-Err.is at c.dial.ensures.dials) c.dial.ensures.retired
          c.dial.ensures.requested c.dial.ensures.shut
          (rw c.in-Err.is at c.dial.ensures.cause).failed c.dial.ensures.returned;
      is_why = c.unnamed.ensures.failure;
      is_name = c.unnamed.ensures.name;
      out_stays = (refl, refl);
    }))

pub returns-in-Ok-clause-ends : goal.returns-in-Ok-clause-ends
returns-in-Ok-clause-ends g c =
    let given : Link = link g.N.In.Source g.N.Out.Sink c.in-Ok.source c.in-Ok.sink in
    let back : Link = link g.N.In.Source g.N.Out.Sink c.serve_program-done.new.input c.serve_program-done.new.out in
    served_over c.args.bundle.now (address_seen c.args.request.address) c.args.request.talk.key.now
    (invocation_seen c.args.request.talk.program) _ _ _ _ _
    (taken_back (address_seen c.args.request.address) c.args.host.now given back _ _ _ _
    (net_seen g.N.Dialer c.args.net.now)
    (net_seen g.N.Dialer c.dial.new.self)
    (net_seen g.N.Dialer c.retire.new.self)
    c.requires.host c.in-Ok.ensures.source c.in-Ok.ensures.sink
    c.in-Ok.ensures.dials c.dial.ensures.retired c.dial.ensures.requested c.dial.ensures.shut
    c.dial.ensures.cause.later c.dial.ensures.returned
    c.retire.ensures.dials c.retire.ensures.retired c.retire.ensures.requested c.retire.ensures.shut
    c.retire.ensures.faults
    c.retire.ensures.returned)
    c.serve_program-done.result c.serve_program-done.ensures.ends
