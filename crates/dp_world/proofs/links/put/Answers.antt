use Rattle.std.proofs.Common.{sym, subst}
use Rattle.dp_world.specs.inner.Changes.{IsAppended}
use Rattle.dp_world.proofs.WorldLaws.{put_is}
use Rattle.dp_world.proofs.links.put.Goals as goal

pub returns-in_ok-insert : goal.returns-in_ok-insert
returns-in_ok-insert g c = λ none.
    subst (IsAppended c.args.links.now.entries c.insert.new.self.entries c.args.link) (sym c.in-Some.is)
    (put_is c.args.links.now.entries c.insert.new.self.entries c.args.link c.in-Some.shown none
    c.in_ok-insert.ensures.entries c.in_ok-insert.ensures.updates.0)
