-- How taping a session ended: what was read of it, and what was written.
use Rattle.std.specs.Prelude.{◌≡◌, ◌⊎◌, ℕ, ◌+◌, ◌<◌, ◌≤◌, List, length, Option, Some, None}
use Rattle.std.specs.Io.KnownBytes.{Appends, Consumes, IsAtEnd}
use Rattle.std.specs.List.{flat_map}
use Rattle.dp_conversation.specs.Folds.{Reply}
use Rattle.dp_conversation.specs.Growth.{Begins, served}
use Rattle.dp_conversation.specs.Service.{IsReadUpTo, byte_limit}
use Rattle.dp_outside.specs.Causes.{Rose}
use Rattle.dp_outside.specs.Changes.{Change}
use Rattle.dp_outside.specs.Streams.{AppendsFront}
use Rattle.dp_records.specs.declared.entry.Entry.{Entry}
use Rattle.dp_records.specs.declared.tape_end.Ended.{Ended as End}
use Rattle.dp_records.specs.declared.tape_end.TapeEnd.{TapeEnd}
use Rattle.dp_records.specs.declared.tape_end.TapeEnd.TheVariants.{Ended, ReadFault, WriteFault, ByteLimit, Memory}
use Rattle.dp_records.specs.Behaviours.{Behaviour}
use Rattle.dp_records.specs.Records.{AreEntries, IsRecord, Recording, given, line_of, own, piece_limit, sent}
use Rattle.dp_records.specs.Verdicts.{AgreesThroughout, IsFaithful}
use Rattle.dp_wire.specs.Frames.{BeginsNoCommand, IsPartialCommand, rest_of}

-- ---- why the session was over

-- no command has ended the session, and more of one has to come
abbrev pub WantsMore : {S E : Type 0} → Reply S E → List ℕ → Type 0
WantsMore reply bytes = (reply.ended ≡ None) × IsPartialCommand (rest_of bytes)

-- a command ended it; or the offset of the first byte with which none begins; or the source gave
-- its end
abbrev pub IsOver : {S E : Type 0} → Option ℕ → Reply S E → List ℕ → Change → Type 0
IsOver (Some offset) reply read source =
    (reply.ended ≡ None) × BeginsNoCommand (rest_of read)
    × (offset + length (rest_of read) ≡ length read)
IsOver {S = S} {E = E} None reply read source =
    ((end : E) × (reply.ended ≡ Some end))
    ⊎ (WantsMore reply read × IsAtEnd source.told × (length read < byte_limit))

-- ---- what was written

-- a record of this, which is honest
pub record IsTape (behaviour : Behaviour) (read text : List ℕ) (status : ℕ) : Type 0 where
  pub recording : Recording
  pub is : IsRecord text recording
  pub faithful : IsFaithful behaviour recording
  pub all_given : given recording.entries ≡ read
  pub ended : recording.status ≡ status

-- The lines of a record but the last, which agree with the session throughout. Of the bytes read
-- the first ones were given by them.
pub record AreLines (behaviour : Behaviour) (read text : List ℕ) : Type 0 where
  pub entries : List Entry
  pub are : AreEntries entries
  pub whole : text ≡ flat_map line_of entries
  pub throughout : AgreesThroughout behaviour.sent entries
  pub front : Begins (given entries) read

-- likewise, and they tell all that was read, sent and written so far
pub record AreAllLines {S E : Type 0} (behaviour : Behaviour) (reply : Reply S E)
    (read text : List ℕ) : Type 0 where
  pub lines : AreLines behaviour read text
  pub all_given : given lines.entries ≡ read
  pub all_sent : sent lines.entries ≡ behaviour.sent read
  pub all_own : own lines.entries ≡ reply.program

-- ---- why it ended

-- all was written that could be; no last line
pub record IsLeftOpen {S E : Type 0} (behaviour : Behaviour) (reply : Reply S E) (read : List ℕ)
    (sink : Change) : Type 0 where
  pub goes_on : WantsMore reply read
  pub text : List ℕ
  pub written : Appends sink.told_before sink.told text
  pub lines : AreAllLines behaviour reply read text

-- a front of some lines was written
pub record HasLines (behaviour : Behaviour) (read : List ℕ) (sink : Change) : Type 0 where
  pub text : List ℕ
  pub written : AppendsFront sink.told_before sink.told text
  pub lines : AreLines behaviour read text

-- a front of the whole record was
pub record HasFront (behaviour : Behaviour) (read : List ℕ) (sink : Change) : Type 0 where
  pub text : List ℕ
  pub status : ℕ
  pub written : AppendsFront sink.told_before sink.told text
  pub tape : IsTape behaviour read text status

pub record IsEnded {S E : Type 0} (behaviour : Behaviour) (reply : Reply S E) (end : End)
    (read : List ℕ) (source sink : Change) : Type 0 where
  pub over : IsOver end.bad reply read source
  pub outcome : end.outcome ≡ behaviour.ending read
  pub text : List ℕ
  pub written : Appends sink.told_before sink.told text
  pub tape : IsTape behaviour read text end.status

abbrev pub EndsTape : {S E : Type 0} → TapeEnd → Behaviour → Reply S E → List ℕ → Change → Change
    → Type 0
EndsTape (Ended end) behaviour reply read source sink =
    IsEnded behaviour reply end read source sink
EndsTape ReadFault behaviour reply read source sink =
    IsLeftOpen behaviour reply read sink × Rose source.faults_before source.faults
    × (length read < byte_limit)
EndsTape WriteFault behaviour reply read source sink =
    (HasLines behaviour read sink ⊎ HasFront behaviour read sink)
    × Rose sink.faults_before sink.faults
EndsTape ByteLimit behaviour reply read source sink =
    IsLeftOpen behaviour reply read sink × (length read ≡ byte_limit)
EndsTape Memory behaviour reply read source sink = HasLines behaviour read sink

pub record Tapes {S E : Type 0} (step : S → List ℕ → Reply S E) (start : S) (behaviour : Behaviour)
    (end : TapeEnd) (source sink : Change) : Type 0 where
  pub read : List ℕ
  pub within : length read ≤ byte_limit
  pub up_to : IsReadUpTo step start piece_limit read
  pub consumed : Consumes source.told_before source.told read
  pub ends : EndsTape end behaviour (served step start read) read source sink
