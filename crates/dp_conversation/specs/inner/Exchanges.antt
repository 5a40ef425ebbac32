-- A session that goes on over a link: what was read so far, what of it is held, and what it has led
-- to. Only the proof of serving speaks of these.
use Rattle.std.specs.Prelude.{◌≡◌, ℕ, ◌<◌, ◌≤◌, List, [], ◌++◌, length, Option, None, Some}
use Rattle.std.specs.List.{flat_map, AllByRecursion}
use Rattle.std.specs.Io.KnownBytes.{Appends, Consumes, Keeps, IsAtEnd}
use Rattle.dp_outside.specs.Causes.{Rose}
use Rattle.dp_outside.specs.Changes.{Change}
use Rattle.dp_wire.specs.Frames.{IsCommand, command_frame, commands_in, packet_frame, IsPartialCommand, BeginsNoCommand}
use Rattle.dp_conversation.specs.declared.link.Fault.{Fault}
use Rattle.dp_conversation.specs.declared.link.Pause.{Pause}
use Rattle.dp_conversation.specs.declared.link.Pause.TheVariants.{Ended, Partial, TooLong}
use Rattle.dp_conversation.specs.declared.link.SessionOver.{SessionOver}
use Rattle.dp_conversation.specs.declared.link.Piece.{Piece}
use Rattle.dp_conversation.specs.declared.link.Piece.TheVariants.{Came, End, Failed}
use Rattle.dp_conversation.specs.Folds.{Reply, replies}
use Rattle.dp_conversation.specs.Service.{ConversationCutBy, ConversationEndsBy, SendsPast, IsLeftIn, IsReadUpTo, byte_limit, piece_limit}

-- These commands were taken from the bytes read, and what follows them is held. However the bytes
-- go on, they stay the first commands.
pub record HasTaken (read held : List ℕ) (taken : List (List ℕ)) : Type 0 where
  pub each : AllByRecursion IsCommand taken
  pub whole : read ≡ flat_map command_frame taken ++ held
  pub first : (more : List ℕ) → commands_in (read ++ more) ≡ taken ++ commands_in (held ++ more)

-- the reply was sent and printed, and nothing else
pub record Delivers {S E : Type 0} (reply : Reply S E) (sink out : Change) : Type 0 where
  pub sent : Appends sink.told_before sink.told (flat_map packet_frame reply.packets)
  pub printed : Appends out.told_before out.told reply.program

-- why no further command is answered
abbrev pub StopsBy : {E : Type 0} → Pause E → Option E → List ℕ → Type 0
StopsBy (Ended end) ended rest = ended ≡ Some end
StopsBy Partial ended rest = (ended ≡ None) × IsPartialCommand rest
StopsBy TooLong ended rest = (ended ≡ None) × BeginsNoCommand rest

-- so far the session has come from the bytes held at the start to those that are left
pub record Reached {S E : Type 0} (step : S → List ℕ → Reply S E) (start state : S)
    (held rest : List ℕ) (sink out : Change) : Type 0 where
  pub taken : List (List ℕ)
  pub place : HasTaken held rest taken
  pub delivers : Delivers (replies step start taken) sink out
  pub is_state : (replies step start taken).state ≡ state

-- the commands among the bytes held were answered, as far as they go
pub record AnswersHeld {S E : Type 0} (step : S → List ℕ → Reply S E) (start state : S)
    (held rest : List ℕ) (answer : Pause E) (sink out : Change) : Type 0 where
  pub reached : Reached step start state held rest sink out
  pub stops : StopsBy answer (replies step start reached.taken).ended rest

-- A fault cut the answering of these commands short: the first ones were answered whole, and at
-- most one more was taken.
pub record CutsShort {S E : Type 0} (step : S → List ℕ → Reply S E) (start state : S)
    (lines : List (List ℕ)) (fault : Fault E) (sink out : Change) : Type 0 where
  pub done : List (List ℕ)
  pub last : List (List ℕ)
  pub later : List (List ℕ)
  pub first : lines ≡ (done ++ last) ++ later
  pub one : length last ≤ 1
  pub goes_on : (replies step start done).ended ≡ None
  pub sent : SendsPast [] (replies step start done) (replies step start (done ++ last)) sink
  pub is_state : IsLeftIn fault (replies step start (done ++ last)).state state
  pub by : ConversationCutBy fault [] (replies step start done)
      (replies step start (done ++ last)) sink out

-- one piece was read from the source, and follows what is held
abbrev pub ReadsPiece : Piece → ℕ → Change → List ℕ → List ℕ → Type 0
ReadsPiece (Came count) room source held now =
    (0 < count) × (count ≤ room)
    × ((piece : List ℕ) × Consumes source.told_before source.told piece × (now ≡ held ++ piece)
    × (length piece ≡ count))
ReadsPiece End room source held now =
    Keeps source.told_before source.told × IsAtEnd source.told × (now ≡ held)
ReadsPiece Failed room source held now =
    Keeps source.told_before source.told × Rose source.faults_before source.faults × (now ≡ held)

-- the session that began with this packet has taken these commands of what was read, of which some
-- is held
pub record Conversation {S E : Type 0} (step : S → List ℕ → Reply S E) (start state : S)
    (init read held : List ℕ) (source sink out : Change) : Type 0 where
  pub taken : List (List ℕ)
  pub consumed : Consumes source.told_before source.told read
  pub place : HasTaken read held taken
  pub sent : Appends sink.told_before sink.told (packet_frame init
      ++ flat_map packet_frame (replies step start taken).packets)
  pub printed : Appends out.told_before out.told (replies step start taken).program
  pub is_state : (replies step start taken).state ≡ state

-- and it is over
pub record Converses {S E : Type 0} (step : S → List ℕ → Reply S E) (start state : S)
    (init : List ℕ) (over : SessionOver E) (source sink out : Change) : Type 0 where
  pub read : List ℕ
  pub held : List ℕ
  pub within : length read ≤ byte_limit
  pub up_to : IsReadUpTo step start piece_limit read
  pub talk : Conversation step start state init read held source sink out
  pub ends : ConversationEndsBy over (replies step start talk.taken).ended held read source
