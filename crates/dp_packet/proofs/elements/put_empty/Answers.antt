use Rattle.std.proofs.Common.{[], refl, sym}
use Rattle.dp_markup.proofs.OutputLaws.{behind_nothing}
use Rattle.dp_packet.specs.Parts.{element}
use Rattle.dp_packet.specs.inner.Shown.{all_shown}
use Rattle.dp_packet.proofs.OutLaws.{element_put}
use Rattle.dp_packet.proofs.elements.put_empty.Goals as goal

pub returns : goal.returns
returns g c =
    let seen = g.O.Output.seen in
    let tag = seen c.put_start.new.out in
    element_put c.put_close.result (seen c.args.out.now) tag tag (seen c.put_close.new.out)
    (element c.args.name.now (all_shown c.args.attributes.now) []) [] refl c.in_ok-put_start.ensures
    (sym (behind_nothing tag)) c.put_close.ensures
