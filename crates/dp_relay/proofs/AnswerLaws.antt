-- What the registry was asked for a command, and what is replied.
use Rattle.std.proofs.Common.{◌≡◌, ℕ, List, Some, None, Result, Ok, Err, IfOk, refl, sym, ap, subst, ◌∙◌, inl, inr}
use Rattle.std.specs.Prelude.{⊤}
use Rattle.dp_packet.specs.declared.packet.Packet.TheVariants as packet
use Rattle.dp_packet.specs.declared.packet.ProxyReply.{ProxyReply}
use Rattle.dp_packet.specs.Text.{text}
use Rattle.dp_outside.specs.Names.{IsHost}
use Rattle.dp_registry.specs.declared.refusal.Refusal.{Refusal}
use Rattle.dp_registry.specs.Verdicts.{reply_of}
use Rattle.dp_desk.specs.Desks.{Known, Called, Entered}
use Rattle.dp_wire.specs.Frames.{IsPacketText}
use Rattle.dp_proxy.specs.declared.calls.Call.{Call}
use Rattle.dp_proxy.specs.Calls.{call_of}
use Rattle.dp_proxy.specs.Replies.{IsAnswerable, verdict_on, verdict_of, entry_of, reply_for}
use Rattle.dp_proxy.proofs.ReplyLaws.{reply_fits}
use Rattle.dp_relay.specs.Registrations.{Answered, Noted}

-- ---- verdicts

-- ---- commands

-- the frame of an answer is one of a packet
pub answer_fits : (v w : Known) (host command : List ℕ) (answer : ProxyReply) → IsHost host
    → Answered v w host command answer → IsPacketText (text (packet.Proxy answer))
answer_fits v w host command answer h a =
    subst (λ r. IsPacketText (text (packet.Proxy r))) (sym a.replied) (reply_fits a.at host command h)

-- the command names no call
names_none : (v : Known) (host command : List ℕ) → None ≡ call_of command → (answer : ProxyReply)
    → answer ≡ reply_for host command (Ok tt) → Answered v v host command answer
names_none v host command e answer replied =
    record {
      at = v.seen;
      replied = replied ∙ ap (λ c. reply_for host command (verdict_of v.seen host c)) e;
      noted = subst (λ c. Noted v v.seen host c v) e (refl, refl);
    }

pub each_names_none : {E : Type 0} (v : Known) (host command : List ℕ) → None ≡ call_of command
    → (result : Result ProxyReply E) → IfOk result (λ answer. answer ≡ reply_for host command (Ok tt))
    → IfOk result (Answered v v host command)
each_names_none v host command e (Ok answer) replied = names_none v host command e answer replied
each_names_none v host command e (Err why) replied = tt

-- the command names this call
module _ (v w : Known) (host command : List ℕ) (call : Call) (named : Some call ≡ call_of command)
    (verdict : Result ⊤ Refusal)
    (called : Called v w (λ at. verdict_on at host call) (entry_of host call) reply_of verdict) where
  noted : verdict ≡ verdict_on called.at host call → Noted v called.at host (call_of command) w
  noted same =
      subst (λ c. Noted v called.at host c w) named
      (subst (λ r. Entered v called.at (entry_of host call) (reply_of r) w) same called.entered)

  pub answered : IsAnswerable verdict → (answer : ProxyReply) → answer ≡ reply_for host command verdict
      → Answered v w host command answer
  answered can answer replied = elim called.answer [
    | inl out ↦ absurd (subst IsAnswerable out can)
    | inr same ↦ record {
      at = called.at;
      replied = replied ∙ ap (reply_for host command) same
          ∙ ap (λ c. reply_for host command (verdict_of called.at host c)) named;
      noted = noted same;
    }
  ]
