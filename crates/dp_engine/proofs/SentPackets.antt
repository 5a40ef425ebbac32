-- What is sent: the first packet, and the answers to commands.
use Rattle.std.proofs.Common.{◌≡◌, ℕ, ◌≤◌, List, [], ◌∷◌, ◌++◌, drop, length, Option, sym, ap, subst, ◌∙◌}
use Rattle.std.specs.Prelude.{Result, Ok, Err, IfOk}
use Rattle.dp_tree.specs.declared.bundle.Bundle.{Bundle}
use Rattle.dp_command.specs.declared.line.Line.{Line}
use Rattle.dp_command.specs.declared.command.StreamMode.{StreamMode}
use Rattle.dp_command.specs.Lines.{line_of}
use Rattle.dp_packet.specs.declared.packet.Packet.TheVariants as packet
use Rattle.dp_packet.specs.declared.packet.Response.{Response}
use Rattle.dp_packet.specs.Parts.{Text}
use Rattle.dp_packet.specs.Text.{text}
use Rattle.dp_packet.specs.Uris.{file_uri}
use Rattle.dp_packet.proofs.LengthLaws.{packet_some}
use Rattle.dp_conversation.specs.declared.responder.Answer.{Answer}
use Rattle.dp_conversation.specs.Folds.{reply_of}
use Rattle.dp_wire.specs.Frames.{IsPacketText}
use Rattle.dp_engine.specs.declared.session.Report.{Report}
use Rattle.dp_engine.specs.declared.session.SessionEnd.{SessionEnd}
use Rattle.dp_engine.specs.declared.replies.Turn.{Turn as Made}
use Rattle.dp_engine.specs.Answers.{Turn, answer, news, sent, to_ide, to_program, turn, turn_of, turn_with}
use Rattle.dp_engine.specs.Refusals.{refusal_of_line}
use Rattle.dp_engine.specs.Responses.{init_text, main_name, response_text}
use Rattle.dp_engine.specs.Session.{State, output_so_far, written_between}
use Rattle.dp_engine.specs.inner.Sizes.{Fits}
use Rattle.dp_engine.specs.inner.Turns.{IsSent, IsTurn}
use Rattle.dp_engine.proofs.ResponseSizes.{init_fits}

-- ---- the first packet

pub init_is : {E : Type 0} (bundle : Bundle) (key idekey uri name : Text) (made : Result Text E) → idekey ≡ key
    → uri ≡ file_uri name → name ≡ main_name bundle
    → IfOk made (λ t. t ≡ text (packet.Init (record { idekey = idekey; fileuri = uri })))
    → IfOk made (λ t. t ≡ init_text bundle key)
unfolding init_text
init_is bundle key idekey uri name (Ok t) k u n is =
    is ∙ ap (λ (x : Text). text (packet.Init (record { idekey = x; fileuri = uri }))) k
    ∙ ap (λ (x : Text). text (packet.Init (record { idekey = key; fileuri = x }))) (u ∙ ap file_uri n)
init_is bundle key idekey uri name (Err e) k u n is = tt

pub init_is_text : {E : Type 0} (bundle : Bundle) (key : Text) (made : Result Text E) → length key ≤ 128
    → length (main_name bundle) ≤ 255 → IfOk made (λ t. t ≡ init_text bundle key)
    → IfOk made IsPacketText
init_is_text bundle key (Ok t) p q is = subst IsPacketText (sym is) (init_fits bundle key p q)
init_is_text bundle key (Err e) p q is = tt

-- ---- responses

pub response_text_is : {E : Type 0} (r : Response) (made : Result Text E)
    → IfOk made (λ t. t ≡ text (packet.Response r)) → IfOk made (λ t. t ≡ response_text r)
unfolding response_text
response_text_is r made is = is

response_is_text : (r : Response) → Fits r → IsPacketText (response_text r)
unfolding response_text
response_is_text r fits = record { some_byte = packet_some (packet.Response r); fits = fits.short }

pub response_fits : {E : Type 0} (r : Response) (made : Result Text E) → Fits r → IfOk made (λ t. t ≡ response_text r)
    → IfOk made IsPacketText
response_fits r (Ok t) fits is = subst IsPacketText (sym is) (response_is_text r fits)
response_fits r (Err e) fits is = tt

-- ---- answers

-- what is sent of a turn is what is sent of the one that is asked for
pub given_is : {E : Type 0} (before next : State) (asked : Turn) (mode : StreamMode) (shown : ℕ) (written : List ℕ)
    (made : Made) (reply : Result (Answer SessionEnd) E) → mode ≡ before.stdout
    → shown ≡ length (output_so_far before) → written ≡ drop shown (output_so_far next)
    → IsTurn asked next made → IfOk reply (IsSent mode written made)
    → IfOk reply (λ x. reply_of x next ≡ sent before asked)
given_is before next asked mode shown written made (Ok given) m n w t s =
    let fresh : written ≡ written_between before asked.next =
    w ∙ ap (λ (k : ℕ). drop k (output_so_far next)) n ∙ ap (written_between before) t.next in λ i. record {
      packets = (s.packets ∙ (λ j. to_ide (m j) (fresh j) ++ news (t.responds.before_it j)
          ++ response_text (t.responds.response_is j) ∷ [])) i;
      program = (s.program ∙ (λ j. to_program (m j) (fresh j))) i;
      state = t.next i;
      ended = (s.ended ∙ t.responds.ends) i;
    }
given_is before next asked mode shown written made (Err e) m n w t s = tt

-- and what is reported of it is the turn
pub report_is : (asked : Turn) (next : State) (made : Made) (report : Report) → IsTurn asked next made
    → report.before ≡ made.before → report.response ≡ made.response → report.ended ≡ made.ended
    → turn_with report next ≡ asked
report_is asked next made report t b r e = λ i. record {
  before = (b ∙ t.responds.before_it) i;
  response = (r ∙ t.responds.response_is) i;
  next = t.next i;
  ended = (e ∙ t.responds.ends) i;
}

-- the turn of a line that was read is the one of its bytes
pub turn_read : (before next : State) (bytes : List ℕ) (line : Option Line) (made : Made)
    → line ≡ line_of bytes → IsTurn (turn_of line (refusal_of_line before line) before) next made
    → IsTurn (turn before bytes) next made
unfolding turn
turn_read before next bytes line made is t =
    subst (λ (l : Option Line). IsTurn (turn_of l (refusal_of_line before l) before) next made) is t

-- and so is what is answered to it
pub answer_read : {E : Type 0} (before next : State) (bytes : List ℕ) (line : Option Line)
    (reply : Result (Answer SessionEnd) E) → line ≡ line_of bytes
    → IfOk reply (λ x. reply_of x next ≡ sent before (turn_of line (refusal_of_line before line) before))
    → IfOk reply (λ x. reply_of x next ≡ answer before bytes)
unfolding turn answer
answer_read before next bytes line reply is t =
    subst (λ (l : Option Line). IfOk reply (λ x. reply_of x next ≡ sent before (turn_of l
    (refusal_of_line before l) before))) is t
