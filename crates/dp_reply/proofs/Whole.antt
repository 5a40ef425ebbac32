-- What is read of a whole text, by what its markup is.
use Rattle.std.proofs.Common.{◌≡◌, Some, None, Result, Ok, Err, sym, ap, ◌∙◌}
use Rattle.std.specs.Prelude.{MatchResult}
use Rattle.dp_markup.specs.declared.tree.Element.{Element}
use Rattle.dp_markup.specs.declared.errors.MarkupError.{MarkupError}
use Rattle.dp_markup.specs.declared.errors.MarkupError.TheVariants as markup
use Rattle.dp_reply.specs.declared.errors.ReplyError.{ReplyError}
use Rattle.dp_reply.specs.declared.errors.ReplyError.TheVariants.{NotDbgp, Memory}
use Rattle.dp_packet.specs.declared.packet.Packet.{Packet}
use Rattle.dp_reply.specs.Readings.{packet_in, IsPacket}
use Rattle.dp_reply.specs.Verdict.{Finds, refusal_of}

pub only_one : (result : Result Packet ReplyError) (found e : Element) (p : Packet)
    → Finds (λ q. q) result (packet_in found) → found ≡ e → IsPacket e p
    → MatchResult result (λ q. q ≡ p) (λ x. x ≡ Memory)
only_one (Ok q) found e p is same packet = let both : Some q ≡ Some p = sym is ∙ ap packet_in same ∙ packet in cc
only_one (Err Memory) found e p is same packet = cc
only_one (Err NotDbgp) found e p is same packet =
    let both : None ≡ Some p = sym is ∙ ap packet_in same ∙ packet in absurd cc

pub none_there : (result : Result Packet ReplyError) (found e : Element) → Finds (λ q. q) result (packet_in found)
    → found ≡ e → result ≡ Err NotDbgp → packet_in e ≡ None
none_there (Ok q) found e is same refused = absurd cc
none_there (Err Memory) found e is same refused = absurd cc
none_there (Err NotDbgp) found e is same refused = ap packet_in (sym same) ∙ is

-- where the text is a markup, only memory fails
pub memory_alone : (why : MarkupError) → why ≡ markup.Memory → refusal_of why ≡ Memory
memory_alone why is = ap refusal_of is

pub not_memory : (why : MarkupError) (result : Result Packet ReplyError) → result ≡ Err (refusal_of why)
    → result ≡ Err NotDbgp → why ≡ markup.Memory → ⊥
not_memory why result is refused memory =
    let both : Err Memory ≡ Err NotDbgp = ap (λ (e : ReplyError). Err e) (ap refusal_of (sym memory)) ∙ sym is
    ∙ refused in absurd cc
