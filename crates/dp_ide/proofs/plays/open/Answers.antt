use Rattle.dp_outside.specs.Changes.{change}
use Rattle.dp_ide.proofs.OpenLaws.{opened, unopened, unread}
use Rattle.dp_ide.proofs.plays.open.Goals as goal

pub returns-in-Ok-clause-ok : goal.returns-in-Ok-clause-ok
returns-in-Ok-clause-ok g c =
    opened c.args.packets.now c.next_message.new.packets (change g.S.Source.left g.S.Source.faults c.args.source.now
    c.next_message.new.source) c.in-Ok.last c.requires.nothing c.requires.first
    c.in-Ok.ensures.ok c.hear_init.result c.hear_init.ensures.init c.hear_init.ensures.heard

pub returns-in-Ok-clause-err : goal.returns-in-Ok-clause-err
returns-in-Ok-clause-err g c =
    unopened c.args.packets.now c.next_message.new.packets (change g.S.Source.left g.S.Source.faults c.args.source.now
    c.next_message.new.source) c.in-Ok.last c.requires.nothing c.requires.first
    c.in-Ok.ensures.ok c.hear_init.result c.hear_init.ensures.init c.hear_init.ensures.refused

pub returns-in-Err-clause-err : goal.returns-in-Err-clause-err
returns-in-Err-clause-err g c =
    unread c.in-Err.why c.args.packets.now (change g.S.Source.left g.S.Source.faults c.args.source.now
    c.next_message.new.source) c.requires.nothing c.requires.first c.in-Err.ensures.err
