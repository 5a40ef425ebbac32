-- A session that was served over a link, by how its conversation ended.
use Rattle.std.specs.Prelude.{◌≡◌, ◌⊎◌, ℕ, ◌+◌, ◌<◌, ◌≤◌, List, [], ◌++◌, length, take, Option, None, Some}
use Rattle.std.specs.List.{flat_map}
use Rattle.std.specs.Io.KnownBytes.{Appends, Consumes, IsAtEnd}
use Rattle.dp_outside.specs.Causes.{Rose}
use Rattle.dp_outside.specs.Changes.{Change}
use Rattle.dp_outside.specs.Streams.{AppendsFront}
use Rattle.dp_wire.specs.Frames.{commands_in, packet_frame, rest_of, IsPartialCommand, BeginsNoCommand}
use Rattle.dp_conversation.specs.declared.link.Fault.{Fault}
use Rattle.dp_conversation.specs.declared.link.Fault.TheVariants.{Write, Out, Memory}
use Rattle.dp_conversation.specs.declared.link.SessionOver.{SessionOver}
use Rattle.dp_conversation.specs.declared.link.SessionOver.TheVariants.{Ended, LinkEnd, ReadFault, BadCommandFrame, ByteLimit}
use Rattle.dp_conversation.specs.Folds.{Reply, replies}
use Rattle.dp_conversation.specs.Growth.{served}

-- the most bytes that one session reads
abbrev pub byte_limit : ℕ
byte_limit = 4294967295

-- Why a session that no fault of a put cut short ended here: whether a command has ended it, what
-- of the bytes read is no whole command, and what became of the source. The source's end and its
-- fault come only below the limit of bytes, and the limit only where so many were read.
abbrev pub ConversationEndsBy : {E : Type 0} → SessionOver E → Option E → List ℕ → List ℕ → Change
    → Type 0
ConversationEndsBy (Ended end) ended rest read source = ended ≡ Some end
ConversationEndsBy LinkEnd ended rest read source =
    (ended ≡ None) × IsPartialCommand rest × IsAtEnd source.told × (length read < byte_limit)
ConversationEndsBy ReadFault ended rest read source =
    (ended ≡ None) × IsPartialCommand rest × Rose source.faults_before source.faults
    × (length read < byte_limit)
ConversationEndsBy (BadCommandFrame offset) ended rest read source =
    (ended ≡ None) × BeginsNoCommand rest × (offset + length rest ≡ length read)
ConversationEndsBy ByteLimit ended rest read source =
    (ended ≡ None) × IsPartialCommand rest × (length read ≡ byte_limit)

-- the most bytes that a session over a link reads at once
abbrev pub piece_limit : ℕ
piece_limit = 8192

-- What was read ends with one piece of at most so many bytes. Before it no command had ended the
-- session, and more of one had to come: neither an end nor a bad command stood there. How often the
-- source was asked for the bytes of the piece is not said.
pub record IsReadUpTo {S E : Type 0} (step : S → List ℕ → Reply S E) (start : S) (limit : ℕ)
    (read : List ℕ) : Type 0 where
  pub front : List ℕ
  pub piece : List ℕ
  pub whole : read ≡ front ++ piece
  pub short : length piece ≤ limit
  pub goes_on : (served step start front).ended ≡ None
  pub partial : IsPartialCommand (rest_of front)

-- Read from the source, written on the link and to the program's own output is what the first
-- packet and the commands among the bytes read lead to.
pub record IsConversed {S E : Type 0} (step : S → List ℕ → Reply S E) (start state : S)
    (init : List ℕ) (over : SessionOver E) (source sink out : Change) : Type 0 where
  pub read : List ℕ
  pub within : length read ≤ byte_limit
  pub up_to : IsReadUpTo step start piece_limit read
  pub consumed : Consumes source.told_before source.told read
  pub sent : Appends sink.told_before sink.told (packet_frame init
      ++ flat_map packet_frame (served step start read).packets)
  pub printed : Appends out.told_before out.told (served step start read).program
  pub is_state : (served step start read).state ≡ state
  pub ends : ConversationEndsBy over (served step start read).ended (rest_of read) read source

-- ---- a session that a fault has cut short

-- of all these bytes a front, which has at least the first ones
abbrev pub AppendsPast : Option (List ℕ) → Option (List ℕ) → List ℕ → List ℕ → Type 0
AppendsPast old new first all = (n : ℕ) × (length first ≤ n) × Appends old new (take n all)

-- Of two replies, the second of which is the first with one command more, the link has taken the
-- whole first one, and a front of what that command adds. So many bytes went out before them.
abbrev pub SendsPast : {S E : Type 0} → List ℕ → Reply S E → Reply S E → Change → Type 0
SendsPast before done all sink =
    AppendsPast sink.told_before sink.told (before ++ flat_map packet_frame done.packets)
    (before ++ flat_map packet_frame all.packets)

-- What a fault leaves of them. It has its cause. The program's own output has the whole of what
-- goes there; where its put failed, all but a part of what the last command adds, and the link has
-- nothing of that. Where a put on the link failed, it is known how that command ended the session.
abbrev pub ConversationCutBy : {S E : Type 0} → Fault E → List ℕ → Reply S E → Reply S E → Change
    → Change → Type 0
ConversationCutBy (Write ended) before done all sink out =
    Rose sink.faults_before sink.faults × (ended ≡ all.ended)
    × Appends out.told_before out.told all.program
ConversationCutBy Out before done all sink out =
    Rose out.faults_before out.faults
    × AppendsPast out.told_before out.told done.program all.program
    × Appends sink.told_before sink.told (before ++ flat_map packet_frame done.packets)
ConversationCutBy Memory before done all sink out =
    Appends out.told_before out.told all.program

-- the state that a session is in after a fault; once memory ran out nothing is known of it
abbrev pub IsLeftIn : {S E : Type 0} → Fault E → S → S → Type 0
IsLeftIn (Write ended) after state = after ≡ state
IsLeftIn Out after state = after ≡ state
IsLeftIn Memory after state = Unit {0}

-- A fault cut the session short. Of the commands among the bytes read the first ones were answered
-- whole, and at most one more was obeyed, the last; only the first packet can be cut before any.
-- Nothing is read behind the last: the commands before the last piece were all answered whole.
pub record IsConversationCut {S E : Type 0} (step : S → List ℕ → Reply S E) (start state : S)
    (init : List ℕ) (fault : Fault E) (source sink out : Change) : Type 0 where
  pub read : List ℕ
  pub within : length read ≤ byte_limit
  pub up_to : IsReadUpTo step start piece_limit read
  pub consumed : Consumes source.told_before source.told read
  pub done : List (List ℕ)
  pub last : List (List ℕ)
  pub later : List (List ℕ)
  pub first : commands_in read ≡ (done ++ last) ++ later
  pub one : length last ≤ 1
  pub lately : List (List ℕ)
  pub behind : done ≡ commands_in up_to.front ++ lately
  pub goes_on : (replies step start done).ended ≡ None
  pub sent : ((read ≡ []) × AppendsFront sink.told_before sink.told (packet_frame init))
      ⊎ SendsPast (packet_frame init) (replies step start done)
      (replies step start (done ++ last)) sink
  pub is_state : IsLeftIn fault (replies step start (done ++ last)).state state
  pub by : ConversationCutBy fault (packet_frame init) (replies step start done)
      (replies step start (done ++ last)) sink out
