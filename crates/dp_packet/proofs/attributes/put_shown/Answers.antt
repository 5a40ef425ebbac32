use Rattle.std.proofs.Common.{◌≡◌, sym, subst}
use Rattle.std.specs.Prelude.{OnOk}
use Rattle.dp_markup.specs.Outputs.{behind}
use Rattle.dp_packet.specs.Parts.{Text}
use Rattle.dp_packet.proofs.OutLaws.{shown_texts}
use Rattle.dp_packet.proofs.attributes.put_shown.Goals as goal

pub returns : goal.returns
returns g c =
    let seen = g.O.Output.seen in
    subst (λ (l : Text). OnOk c.put_each.result (seen c.put_each.new.out ≡ behind (seen c.args.out.now) l))
    (sym (shown_texts c.args.attributes.now)) c.put_each.ensures
