use Rattle.std.proofs.Common.{refl}
use Rattle.dp_markup.specs.Texts.{nodes_text}
use Rattle.dp_packet.specs.Packets.{notified_nodes, notify_element}
use Rattle.dp_packet.proofs.OutLaws.{element_put}
use Rattle.dp_packet.proofs.texts.put_notify.Goals as goal

pub returns : goal.returns
returns g c =
    let seen = g.O.Output.seen in
    let notify = c.args.notify.now in
    element_put c.put_close.result (seen c.args.out.now) (seen c.put_start.new.out) (seen c.put_notified.new.out)
    (seen c.put_close.new.out) (notify_element notify) (nodes_text (notified_nodes notify.breakpoint)) refl
    c.in_ok-put_start.ensures c.in_ok-put_notified.ensures c.put_close.ensures
