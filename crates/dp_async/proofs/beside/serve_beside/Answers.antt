use Rattle.std.proofs.Common.{◌≡◌, Ok, Err, rules}
use Rattle.std.proofs.lemmas.Result.{MatchResult-weaker}
use Rattle.dp_outside.specs.Changes.{change}
use Rattle.dp_async.specs.Beside.{flow_of}
use Rattle.dp_async.proofs.Attending.{answered}
use Rattle.dp_async.proofs.beside.serve_beside.Goals as goal

pub returns-in-Ok-clause-answers : goal.returns-in-Ok-clause-answers
returns-in-Ok-clause-answers g c =
    let reads = rw (c.new-reader.ensures.source, c.new-reader.ensures.post) at c.in-Ok.ensures.ok.1 in
    let ran = c.in-Ok.ensures.ok.0.3 in
    let faults = g.P.Spawner.faults c.args.spawner.now in
    let faults' = g.P.Spawner.faults c.beside.new.self in
    let before = flow_of g.S.Source c.args.source in
    let now = flow_of g.S.Source c.in-Ok.reader.source in
    let sink = change g.K.Sink.taken g.K.Sink.faults c.args.sink.now c.in-Ok.session.sink.now in
    let out = change g.E.Sink.taken g.E.Sink.faults c.args.out.now c.in-Ok.session.out.now in
    let sunk : c.sink-1.given.0 ≡ c.in-Ok.session.sink.now = search rules in
    let put : c.out-1.given.0 ≡ c.in-Ok.session.out.now = search rules in
    rw (c.joined.ensures.source, sunk, put)
    (MatchResult-weaker c.joined.result.0 c.joined.ensures.served
    (λ given joined. answered (Ok given) c.in-Ok.session.served c.in-Ok.reader.starved c.args.bundle.now c.args.bound
    c.args.key.now c.args.post.now c.in-Ok.session.seat c.in-Ok.reader.seat faults faults' before now sink out joined
    ran reads c.joined.ensures.front c.in-Ok.ensures.granted)
    (λ error joined. answered (Err error) c.in-Ok.session.served c.in-Ok.reader.starved c.args.bundle.now c.args.bound
    c.args.key.now c.args.post.now c.in-Ok.session.seat c.in-Ok.reader.seat faults faults' before now sink out joined
    ran reads c.joined.ensures.front c.in-Ok.ensures.granted))
