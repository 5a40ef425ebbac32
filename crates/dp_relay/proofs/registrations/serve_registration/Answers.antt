use Rattle.std.proofs.Common.{List, ℕ, subst}
use Rattle.dp_relay.specs.Ends.{ends}
use Rattle.dp_relay.specs.Registrations.{Registered}
use Rattle.dp_relay.proofs.MadeLaws.{makes_one}
use Rattle.dp_relay.proofs.ServeLaws.{finishes}
use Rattle.dp_relay.proofs.registrations.serve_registration.Goals as goal

pub returns-clause-registered : goal.returns-clause-registered
returns-clause-registered g c =
    let before = ends g.S.Source g.K.Sink c.args.source.now c.args.sink.now in
    let served = c.serve_asked-ended in
    finishes g.S.Source g.K.Sink served.new.source served.new.sink c.finish.new.self c.args.clerk.now
    served.new.clerk c.args.host.now before served.result c.finish.ensures.taken c.finish.ensures.faults
    (subst (λ (host : List ℕ). Registered c.args.clerk.now served.new.clerk host before
    (ends g.S.Source g.K.Sink served.new.source served.new.sink) served.result)
    c.text.ensures.text served.ensures)

pub returns-clause-one : goal.returns-clause-one
returns-clause-one g c =
    let served = c.serve_asked-ended in
    makes_one c.args.clerk.now served.new.clerk c.text.result.now
    (ends g.S.Source g.K.Sink c.args.source.now c.args.sink.now)
    (ends g.S.Source g.K.Sink served.new.source served.new.sink) served.result served.ensures
