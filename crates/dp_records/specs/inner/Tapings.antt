-- How far a session is taped.
use Rattle.std.specs.Prelude.{◌≡◌, ◌⊎◌, ℕ, ◌<◌, ◌≤◌, List, [], ◌++◌, length, Option, None}
use Rattle.std.specs.Io.KnownBytes.{Appends, Consumes, IsAtEnd}
use Rattle.std.specs.List.{flat_map, AllByRecursion}
use Rattle.dp_conversation.specs.Folds.{Reply}
use Rattle.dp_conversation.specs.Growth.{Begins, served}
use Rattle.dp_conversation.specs.Service.{IsReadUpTo, byte_limit}
use Rattle.dp_outside.specs.Causes.{Rose}
use Rattle.dp_outside.specs.Changes.{Change}
use Rattle.dp_outside.specs.Streams.{AppendsFront}
use Rattle.dp_records.specs.declared.entry.Entry.{Entry}
use Rattle.dp_records.specs.declared.entry.Stream.{Stream}
use Rattle.dp_records.specs.declared.sessions.Over.{Over}
use Rattle.dp_records.specs.declared.sessions.Over.TheVariants.{Open}
use Rattle.dp_records.specs.declared.tapes.Stop.{Stop}
use Rattle.dp_records.specs.declared.tapes.Stop.TheVariants.{Finished, Failed, Full}
use Rattle.dp_records.specs.declared.tapes.Taping.{Taping}
use Rattle.dp_records.specs.declared.tapes.Unput.{Unput}
use Rattle.dp_records.specs.declared.tapes.Unput.TheVariants as unput
use Rattle.dp_records.specs.Behaviours.{Behaviour}
use Rattle.dp_records.specs.Records.{AreEntries, IsPiece, given, line_of, own, piece_limit, sent}
use Rattle.dp_records.specs.Tapes.{HasFront, HasLines, WantsMore}
use Rattle.dp_records.specs.Verdicts.{AgreesThroughout}
use Rattle.dp_records.specs.inner.Audits.{sends}
use Rattle.dp_records.specs.inner.Turns.{StopsBy}
use Rattle.dp_wire.specs.Frames.{rest_of}

-- ---- lines that are put

-- the lines tell the bytes, all on one stream, but for the rest
pub record AreOn (stream : Stream) (bytes : List ℕ) (entries : List Entry) (rest : List ℕ)
    : Type 0 where
  pub each : AllByRecursion (λ entry. IsPiece entry.bytes) entries
  pub all : AllByRecursion (λ entry. entry.stream ≡ stream) entries
  pub whole : bytes ≡ flat_map (λ entry. entry.bytes) entries ++ rest

-- such lines were put
pub record PutOn (stream : Stream) (bytes : List ℕ) (old new : Option (List ℕ)) : Type 0 where
  pub entries : List Entry
  pub on : AreOn stream bytes entries []
  pub written : Appends old new (flat_map line_of entries)

-- a front of such lines was put, whatever the rest
pub record FrontOn (stream : Stream) (bytes : List ℕ) (old new : Option (List ℕ)) : Type 0 where
  pub entries : List Entry
  pub rest : List ℕ
  pub on : AreOn stream bytes entries rest
  pub written : AppendsFront old new (flat_map line_of entries)

-- Of what was sent, and what went to the program's own output, these lines tell the first bytes,
-- and the others are left.
pub record TellSome (sent_bytes own_bytes : List ℕ) (entries : List Entry)
    (sent_left own_left : List ℕ) : Type 0 where
  pub each : AllByRecursion (λ entry. IsPiece entry.bytes) entries
  pub none_given : given entries ≡ []
  pub sent_reported : sent_bytes ≡ sent entries ++ sent_left
  pub own_reported : own_bytes ≡ own entries ++ own_left

-- such lines were put
pub record PutSome (sent_bytes own_bytes sent_left own_left : List ℕ) (old new : Option (List ℕ))
    : Type 0 where
  pub entries : List Entry
  pub tell : TellSome sent_bytes own_bytes entries sent_left own_left
  pub written : Appends old new (flat_map line_of entries)

-- a front of such lines was put, whatever was left
pub record PutFront (sent_bytes own_bytes : List ℕ) (old new : Option (List ℕ)) : Type 0 where
  pub entries : List Entry
  pub sent_left : List ℕ
  pub own_left : List ℕ
  pub tell : TellSome sent_bytes own_bytes entries sent_left own_left
  pub written : AppendsFront old new (flat_map line_of entries)

-- ---- the tape so far

module _ {S E : Type 0} (step : S → List ℕ → Reply S E) (start : S) (init : List ℕ) where
  -- the lines tell all that was read; what was sent beside what they tell is left
  pub record Tells (read : List ℕ) (entries : List Entry) (sent_left : List ℕ) : Type 0 where
    pub are : AreEntries entries
    pub throughout : AgreesThroughout (sends step start init) entries
    pub all_given : given entries ≡ read
    pub sent_reported : sends step start init read ≡ sent entries ++ sent_left

  -- such lines were put, and so it is with what went to the program's own output
  pub record HasPut (read sent_left own_left : List ℕ) (old new : Option (List ℕ)) : Type 0 where
    pub entries : List Entry
    pub reported : Tells read entries sent_left
    pub own_reported : (served step start read).program ≡ own entries ++ own_left
    pub written : Appends old new (flat_map line_of entries)

  -- and that is how far the session has come
  pub record IsTaping (over : Over E) (read : List ℕ) (tape : Taping S) (old new : Option (List ℕ))
      : Type 0 where
    pub put : HasPut read tape.sent.items tape.own.items old new
    pub is_state : tape.talk.session ≡ (served step start read).state
    pub stops : StopsBy over (served step start read).ended tape.talk.held.held (rest_of read)
    pub is_left : (served step start read).ended ≡ None → tape.talk.held.held ≡ rest_of read

  -- a front of lines was put that agree throughout, and that give a front of what was read
  pub record IsCut (read : List ℕ) (old new : Option (List ℕ)) : Type 0 where
    pub entries : List Entry
    pub are : AreEntries entries
    pub written : AppendsFront old new (flat_map line_of entries)
    pub throughout : AgreesThroughout (sends step start init) entries
    pub front : Begins (given entries) read

  -- why no more is read
  abbrev pub StopsReading : Stop E → List ℕ → Change → Type 0
  StopsReading (Finished over count) read source =
      (count ≡ length read)
      × (WantsMore (served step start read) read → IsAtEnd source.told × (length read < byte_limit))
  StopsReading Failed read source =
      Rose source.faults_before source.faults × (length read < byte_limit)
  StopsReading Full read source = length read ≡ byte_limit

  -- whether the session is over where no more is read
  abbrev pub over_at : Stop E → Over E
  over_at (Finished over count) = over
  over_at Failed = Open
  over_at Full = Open

  -- what was read of the source
  pub record HasRead (read : List ℕ) (source : Change) : Type 0 where
    pub within : length read ≤ byte_limit
    pub up_to : IsReadUpTo step start piece_limit read
    pub consumed : Consumes source.told_before source.told read

  -- so much was read, and the session taped as far
  pub record IsTaped (stop : Stop E) (tape : Taping S) (source : Change)
      (old new : Option (List ℕ)) : Type 0 where
    pub read : List ℕ
    pub has : HasRead read source
    pub stops : StopsReading stop read source
    pub taping : IsTaping (over_at stop) read tape old new

  -- so much was read, and not all of it could be put
  pub record IsCutShort (source : Change) (old new : Option (List ℕ)) : Type 0 where
    pub read : List ℕ
    pub has : HasRead read source
    pub cut : IsCut read old new

-- ---- the end

-- why the last line was not put
abbrev pub Unputs : Unput → Behaviour → List ℕ → Change → Type 0
Unputs unput.Failed behaviour read sink =
    HasLines behaviour read sink ⊎ HasFront behaviour read sink
Unputs unput.Memory behaviour read sink = HasLines behaviour read sink
