use Rattle.std.proofs.Common.{◌∙◌, sym, ap, subst, inr}
use Rattle.dp_packet.specs.declared.packet.Packet.TheVariants as packet
use Rattle.dp_packet.specs.declared.packet.ProxyReply.{ProxyReply}
use Rattle.dp_packet.specs.Text.{text}
use Rattle.dp_wire.specs.Frames.{IsPacketText}
use Rattle.dp_proxy.proofs.ReplyLaws.{reply_fits}
use Rattle.dp_proxy.proofs.ActLaws.{registered_leaves}
use Rattle.dp_proxy.proofs.acts.answer.Goals as goal

pub returns-in_err-reply-clause-others : goal.returns-in_err-reply-clause-others
returns-in_err-reply-clause-others c =
    registered_leaves c.args.registry.now c.registration.new.registry c.args.host.now c.args.command.now
    c.in_err-reply.ensures.memory

pub returns-in_err-text-clause-others : goal.returns-in_err-text-clause-others
returns-in_err-text-clause-others c =
    registered_leaves c.args.registry.now c.registration.new.registry c.args.host.now c.args.command.now
    (inr c.in_ok-reply.ensures.journal)

pub packet_bytes-requires : goal.packet_bytes-requires
packet_bytes-requires c =
    subst IsPacketText
    (sym (c.as_slice.ensures ∙ c.in_ok-text.ensures
    ∙ ap (λ (r : ProxyReply). text (packet.Proxy r)) c.in_ok-reply.ensures.reply))
    (reply_fits c.args.registry.now c.args.host.now c.args.command.now c.requires)

pub returns-clause-others : goal.returns-clause-others
returns-clause-others c =
    registered_leaves c.args.registry.now c.registration.new.registry c.args.host.now c.args.command.now
    (inr c.in_ok-reply.ensures.journal)
