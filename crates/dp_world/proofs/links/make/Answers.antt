use Rattle.dp_world.proofs.WorldLaws.{made_more, on_ok}
use Rattle.dp_world.proofs.links.make.Goals as goal

pub returns : goal.returns
returns g c = λ journal is none told.
    on_ok c.put.result (λ put. made_more (g.A.Engines.known c.args.engines.now) c.args.links.now.entries
    c.put.new.links.entries c.args.event.now.link c.in_ok-kept.kept _
    (c.in_ok-kept.ensures journal is told) put) (c.put.ensures none)
