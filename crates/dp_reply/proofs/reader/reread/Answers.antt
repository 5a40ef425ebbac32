use Rattle.std.proofs.Common.{subst, sym, ◌∙◌}
use Rattle.dp_markup.specs.Grammar.{IsMarkup}
use Rattle.dp_packet.specs.Packets.{element_of}
use Rattle.dp_reply.specs.Norm.{norm}
use Rattle.dp_reply.proofs.Law.{is_read, is_markup}
use Rattle.dp_reply.proofs.reader.reread.Goals as goal

pub text_of-requires : goal.text_of-requires
text_of-requires c = record { known = c.requires.message }

pub returns : goal.returns
returns c =
    let p = c.args.packet.now in
    let text = c.as_slice.ensures ∙ c.in_ok-text.ensures in
    c.packet_of.ensures.only (element_of p) (norm p) (subst (λ t. IsMarkup t (element_of p)) (sym text)
    (is_markup p c.requires)) (is_read p c.requires)
