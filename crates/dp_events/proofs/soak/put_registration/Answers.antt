use Rattle.std.proofs.Common.{◌∙◌, arith}
use Rattle.dp_events.proofs.SoakLaws.{registered}
use Rattle.dp_events.proofs.soak.put_registration.Goals as goal

pub returns : goal.returns
returns c =
    registered c.put-2.result c.args.number c.from-link.result c.of.result c.of-2.result c.in_ok-command.command.items
    c.args.events.now.items c.put.new.events.items c.put-2.new.events.items (omega arith)
    (c.of.ensures ∙ c.in_ok-host.ensures) c.in_ok-command.ensures
    (c.of-2.ensures ∙ c.in_ok-extend_from_slice.ensures.items) c.in_ok-put.ensures c.put-2.ensures
