-- A session that was served over a link, by how it ended.
use Rattle.std.specs.Prelude.{◌≡◌, ◌⊎◌, ℕ, ◌≤◌, List, [], ◌++◌, length, Option, None, Some}
use Rattle.std.specs.Io.KnownBytes.{Appends, Consumes}
use Rattle.dp_tree.specs.declared.bundle.Bundle.{Bundle}
use Rattle.dp_outside.specs.Causes.{Rose}
use Rattle.dp_outside.specs.Changes.{Change}
use Rattle.dp_outside.specs.Streams.{AppendsFront}
use Rattle.dp_conversation.specs.declared.link.SessionOver.TheVariants as over
use Rattle.dp_conversation.specs.Service.{AppendsPast, ConversationEndsBy, IsReadUpTo, byte_limit, piece_limit}
use Rattle.dp_state.specs.declared.moments.Outcome.{Outcome}
use Rattle.dp_wire.specs.Frames.{commands_in, packet_frame, rest_of}
use Rattle.dp_engine.specs.declared.service.ServeEnd.{ServeEnd}
use Rattle.dp_engine.specs.declared.service.ServeEnd.TheVariants.{Stopped, Detached, LinkEnd, ReadFault, WriteFault, OutFault, BadCommandFrame, ByteLimit, Memory}
use Rattle.dp_engine.specs.declared.service.Served.{Served}
use Rattle.dp_engine.specs.declared.session.SessionEnd.{SessionEnd}
use Rattle.dp_engine.specs.declared.session.SessionEnd.TheVariants as end
use Rattle.dp_engine.specs.Answers.{answer}
use Rattle.dp_engine.specs.Responses.{init_text}
use Rattle.dp_engine.specs.Session.{opening}
use Rattle.dp_engine.specs.Served.{alone, alone_with, answers, answers_to, ending, ending_with, own, own_with}

-- a command has ended the session for good: the program had ended, or was killed
abbrev pub IsOver : Option SessionEnd → Type 0
IsOver ended = (ended ≡ Some end.Killed) ⊎ ((o : Outcome) × (ended ≡ Some (end.Finished o)))

-- why a session that no fault of a put cut short ended here: as dp_conversation has it, but
-- that a program that had ended and one that was killed are reported alike
abbrev pub EndsBy : ServeEnd → Option SessionEnd → List ℕ → List ℕ → Change → Type 0
EndsBy Stopped ended rest read source = IsOver ended
EndsBy Detached ended rest read source =
    ConversationEndsBy (over.Ended end.Detached) ended rest read source
EndsBy LinkEnd ended rest read source = ConversationEndsBy over.LinkEnd ended rest read source
EndsBy ReadFault ended rest read source = ConversationEndsBy over.ReadFault ended rest read source
EndsBy (BadCommandFrame offset) ended rest read source =
    ConversationEndsBy (over.BadCommandFrame offset) ended rest read source
EndsBy ByteLimit ended rest read source = ConversationEndsBy over.ByteLimit ended rest read source
EndsBy cut ended rest read source = ⊥

-- Read from the source, written on the link and to the program's own output is what the session,
-- served alone, comes to, and the program has ended as it does there. What was read ends with one
-- piece, before which no command had ended the session and no bad one stood.
pub record IsServed (served : Served) (bundle : Bundle) (bound : ℕ) (key : List ℕ)
    (source sink out : Change) : Type 0 where
  pub read : List ℕ
  pub within : length read ≤ byte_limit
  pub up_to : IsReadUpTo answer (opening bundle bound) piece_limit read
  pub consumed : Consumes source.told_before source.told read
  pub sent : Appends sink.told_before sink.told (alone bundle bound key read)
  pub printed : Appends out.told_before out.told (own bundle bound read)
  pub outcome : served.outcome ≡ ending bundle bound read
  pub ends : EndsBy served.end (answers bundle bound read).ended (rest_of read) read source

-- ---- a session that a fault has cut short

-- What a fault leaves of a session with these commands. Where the link failed, the program's own
-- output has the whole of what goes there, and the program has ended as it does with them. Where
-- that output failed it has what the commands answered whole lead to, and a front of the rest; and
-- where memory ran out, what all of them lead to. No outcome is reported then.
abbrev pub CutBy : ServeEnd → Option Outcome → Bundle → ℕ → List (List ℕ) → List (List ℕ) → Change
    → Change → Type 0
CutBy WriteFault outcome bundle bound done taken sink out =
    Rose sink.faults_before sink.faults
    × Appends out.told_before out.told (own_with bundle bound taken)
    × (outcome ≡ ending_with bundle bound taken)
CutBy OutFault outcome bundle bound done taken sink out =
    Rose out.faults_before out.faults
    × AppendsPast out.told_before out.told (answers_to bundle bound done).program
    (own_with bundle bound taken)
    × (outcome ≡ None)
CutBy Memory outcome bundle bound done taken sink out =
    AppendsPast out.told_before out.told (answers_to bundle bound taken).program
    (own_with bundle bound taken)
    × (outcome ≡ None)
CutBy whole outcome bundle bound done taken sink out = ⊥

-- Of the commands among the bytes read the first ones were answered whole, and at most one more was
-- obeyed, the last. The link has what the engine, served alone with the first ones, sends, and a
-- front of what the last adds; only the first packet can be cut before any. Of the last it has
-- nothing, unless the program's own output has all that the commands lead to. Nothing is read
-- behind the last: the commands before the last piece were all answered whole.
pub record IsCut (served : Served) (bundle : Bundle) (bound : ℕ) (key : List ℕ)
    (source sink out : Change) : Type 0 where
  pub read : List ℕ
  pub within : length read ≤ byte_limit
  pub up_to : IsReadUpTo answer (opening bundle bound) piece_limit read
  pub consumed : Consumes source.told_before source.told read
  pub done : List (List ℕ)
  pub last : List (List ℕ)
  pub later : List (List ℕ)
  pub first : commands_in read ≡ (done ++ last) ++ later
  pub one : length last ≤ 1
  pub lately : List (List ℕ)
  pub behind : done ≡ commands_in up_to.front ++ lately
  pub sent : ((read ≡ [])
      × AppendsFront sink.told_before sink.told (packet_frame (init_text bundle key)))
      ⊎ AppendsPast sink.told_before sink.told (alone_with bundle bound key done)
      (alone_with bundle bound key (done ++ last))
  pub in_order : Appends sink.told_before sink.told (alone_with bundle bound key done)
      ⊎ AppendsPast out.told_before out.told (answers_to bundle bound (done ++ last)).program
      (own_with bundle bound (done ++ last))
  pub by : CutBy served.end served.outcome bundle bound done (done ++ last) sink out

-- every end has its cause
abbrev pub ServesTo : ServeEnd → Served → Bundle → ℕ → List ℕ → Change → Change → Change → Type 0
ServesTo WriteFault served bundle bound key source sink out =
    IsCut served bundle bound key source sink out
ServesTo OutFault served bundle bound key source sink out =
    IsCut served bundle bound key source sink out
ServesTo Memory served bundle bound key source sink out =
    IsCut served bundle bound key source sink out
ServesTo end served bundle bound key source sink out =
    IsServed served bundle bound key source sink out

abbrev pub Serves : Served → Bundle → ℕ → List ℕ → Change → Change → Change → Type 0
Serves served bundle bound key source sink out =
    ServesTo served.end served bundle bound key source sink out
