use Rattle.std.proofs.Common.{◌≡◌, sym, subst}
use Rattle.std.specs.Prelude.{OnOk}
use Rattle.dp_markup.specs.Outputs.{behind}
use Rattle.dp_markup.specs.Texts.{written}
use Rattle.dp_packet.specs.declared.packet.Packet.{Packet}
use Rattle.dp_packet.specs.Packets.{element_of}
use Rattle.dp_packet.proofs.texts.put_element.Goals as goal

pub returns-in-Init : goal.returns-in-Init
returns-in-Init g c =
    let seen = g.O.Output.seen in
    subst (λ (p : Packet). OnOk c.put_init.result (seen c.put_init.new.out ≡ behind (seen c.args.out.now)
    (written (element_of p)))) (sym c.in-Init.is) c.put_init.ensures
