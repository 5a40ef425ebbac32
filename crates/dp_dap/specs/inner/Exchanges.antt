-- How far a gateway has come over its link.
use Rattle.std.specs.Prelude.{◌≡◌, ◌⊎◌, ℕ, ◌≤◌, true, false, List, ◌++◌, length, take_while, ⊤, Option, None, Some}
use Rattle.std.specs.List.{flat_map, list_all, AllByRecursion}
use Rattle.std.specs.Io.KnownBytes.{Appends, Consumes, IsAtEnd, Keeps}
use Rattle.dp_bodies.specs.Frames.{IsBody, body_frame, BeginsBody, BeginsNoBody, IsPartialBody}
use Rattle.dp_conversation.specs.declared.link.Fault.{Fault}
use Rattle.dp_conversation.specs.declared.link.Fault.TheVariants as fault
use Rattle.dp_conversation.specs.Folds.{replies}
use Rattle.dp_conversation.specs.declared.link.SessionOver.{SessionOver}
use Rattle.dp_conversation.specs.Service.{AppendsPast, IsLeftIn, byte_limit}
use Rattle.dp_outside.specs.Causes.{Rose}
use Rattle.dp_outside.specs.Changes.{Change}
use Rattle.dp_wire.specs.Received.{Received}
use Rattle.dp_engine.specs.declared.session.SessionEnd.{SessionEnd}
use Rattle.dp_dap.specs.declared.service.Piece.{Piece}
use Rattle.dp_dap.specs.declared.service.Piece.TheVariants as piece
use Rattle.dp_dap.specs.declared.service.Pause.{Pause}
use Rattle.dp_dap.specs.declared.service.Pause.TheVariants.{Ended, Partial, Bad}
use Rattle.dp_dap.specs.Dap.{is_request, reply}
use Rattle.dp_dap.specs.Known.{Known}
use Rattle.dp_dap.specs.Service.{IsFramed, IsReadUpTo, OverBy}

abbrev pub sent_of : Known → List (List ℕ) → List ℕ
sent_of start texts = flat_map body_frame (replies reply start texts).packets

-- these bodies, each a request, were taken off what was held, and their answers sent
pub record Answered (start now : Known) (before held : List ℕ) (sink : Change) : Type 0 where
  pub texts : List (List ℕ)
  pub are_bodies : AllByRecursion IsBody texts
  pub are_requests : list_all is_request texts ≡ true
  pub whole : before ≡ flat_map body_frame texts ++ held
  pub state : now ≡ (replies reply start texts).state
  pub sent : Appends sink.told_before sink.told (sent_of start texts)

-- why frames were not sent; the request whose answer was cut may have ended the gateway
abbrev pub SendsNot : Fault SessionEnd → Option SessionEnd → ℕ → ℕ → Type 0
SendsNot (fault.Write seen) ended before after = (seen ≡ ended) × Rose before after
SendsNot fault.Out ended before after = ⊥
SendsNot fault.Memory ended before after = ⊤

-- what a read of at most so many bytes brings, and what is held then
abbrev pub ReadsPiece : Piece → ℕ → Change → Received → Received → Type 0
ReadsPiece (piece.Came count) most source before after =
    (1 ≤ count) × (count ≤ most)
    × ((came : List ℕ) × Consumes source.told_before source.told came
    × (after ≡ (record before { held = before.held ++ came })) × (length came ≡ count))
ReadsPiece piece.End most source before after =
    Keeps source.told_before source.told × IsAtEnd source.told × (after ≡ before)
ReadsPiece piece.Failed most source before after =
    Keeps source.told_before source.told × Rose source.faults_before source.faults
    × (after ≡ before)

-- a body at the front is no request
pub record HoldsNoRequest (held : List ℕ) : Type 0 where
  pub text : List ℕ
  pub more : List ℕ
  pub begins : BeginsBody held text more
  pub none : is_request text ≡ false

-- why no further body is answered
abbrev pub Pauses : Pause → Option SessionEnd → List ℕ → Type 0
Pauses (Ended end) ended held = ended ≡ Some end
Pauses Partial ended held = (ended ≡ None) × IsPartialBody held
Pauses Bad ended held = (ended ≡ None) × (HoldsNoRequest held ⊎ BeginsNoBody held)

abbrev pub AnswersHeld : Known → Known → List ℕ → List ℕ → Pause → Change → Type 0
AnswersHeld start now before held pause sink =
    (answered : Answered start now before held sink)
    × Pauses pause (replies reply start answered.texts).ended held

-- Read from the source and sent on the link is what the bodies among the bytes read come to, up to
-- the end; the gateway knows what they lead to.
pub record Exchanged (start now : Known) (over : SessionOver SessionEnd) (source sink : Change)
    : Type 0 where
  pub read : List ℕ
  pub within : length read ≤ byte_limit
  pub up_to : IsReadUpTo start read
  pub consumed : Consumes source.told_before source.told read
  pub texts : List (List ℕ)
  pub left : List ℕ
  pub framed : IsFramed read texts left
  pub sent : Appends sink.told_before sink.told (sent_of start (take_while is_request texts))
  pub state : now ≡ (replies reply start (take_while is_request texts)).state
  pub lately : List (List ℕ)
  pub behind : take_while is_request texts ≡ up_to.before ++ lately
  pub ends : OverBy over (replies reply start (take_while is_request texts)).ended texts left read
      source

-- A fault cut it short: of the answers a front was sent, and at most one request more was obeyed.
-- It has its cause. Where memory ran out nothing is known of the state.
pub record CutsHeld (start now : Known) (before : List ℕ) (why : Fault SessionEnd) (sink : Change)
    : Type 0 where
  pub done : List (List ℕ)
  pub last : List (List ℕ)
  pub behind : List ℕ
  pub are_bodies : AllByRecursion IsBody (done ++ last)
  pub are_requests : list_all is_request (done ++ last) ≡ true
  pub one : length last ≤ 1
  pub whole : before ≡ flat_map body_frame (done ++ last) ++ behind
  pub state : IsLeftIn why (replies reply start (done ++ last)).state now
  pub sent : AppendsPast sink.told_before sink.told (sent_of start done)
      (sent_of start (done ++ last))
  pub by : SendsNot why (replies reply start (done ++ last)).ended sink.faults_before sink.faults

-- A fault cut it short as these bytes were read. The bodies before the last piece were all
-- answered.
pub record Cut (start now : Known) (why : Fault SessionEnd) (source sink : Change) : Type 0 where
  pub read : List ℕ
  pub within : length read ≤ byte_limit
  pub up_to : IsReadUpTo start read
  pub consumed : Consumes source.told_before source.told read
  pub short : CutsHeld start now read why sink
  pub lately : List (List ℕ)
  pub behind : short.done ≡ up_to.before ++ lately
