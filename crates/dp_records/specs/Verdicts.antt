-- Whether a record is honest, and where it first differs from what its session does.
use Rattle.std.specs.Prelude.{◌≡◌, ◌⊎◌, ℕ, ◌+◌, ◌<◌, Bool, true, false, List, [], ◌∷◌, ◌++◌, length, map, take, Result, Ok, Err, ⊤}
use Rattle.dp_conversation.specs.Growth.{Begins}
use Rattle.dp_records.specs.declared.entry.Entry.{Entry}
use Rattle.dp_records.specs.declared.verdict.AuditError.{AuditError}
use Rattle.dp_records.specs.declared.verdict.AuditError.TheVariants.{BadRecord, ReadFault, Memory}
use Rattle.dp_records.specs.declared.verdict.Verdict.{Verdict}
use Rattle.dp_records.specs.declared.verdict.Verdict.TheVariants.{Honest, Differs}
use Rattle.dp_records.specs.Behaviours.{Behaviour, status_by}
use Rattle.dp_records.specs.Statuses.{is_status}
use Rattle.dp_records.specs.Records.{AreEntries, IsFirstBad, IsRecord, Recording, end_line, given, line_of, lines_in, own, sent}

-- ---- honest records

-- what was sent so far begins what a session sends that was sent what came so far
abbrev pub Agrees : (List ℕ → List ℕ) → List Entry → Type 0
Agrees sends entries = Begins (sent entries) (sends (given entries))

-- so it is behind each line
abbrev pub AgreesThroughout : (List ℕ → List ℕ) → List Entry → Type 0
AgreesThroughout sends entries = (count : ℕ) → Agrees sends (take count entries)

-- at the last line all was told that the session does, and the status is its own
pub record EndsRight (behaviour : Behaviour) (recording : Recording) : Type 0 where
  pub sent_all : sent recording.entries ≡ behaviour.sent (given recording.entries)
  pub own_all : own recording.entries ≡ behaviour.own (given recording.entries)
  pub status : recording.status ≡ status_by behaviour (given recording.entries)

pub record IsFaithful (behaviour : Behaviour) (recording : Recording) : Type 0 where
  pub throughout : AgreesThroughout behaviour.sent recording.entries
  pub ends : EndsRight behaviour recording

-- the bytes are a record, and it is honest
abbrev pub IsHonest : Behaviour → List ℕ → Type 0
IsHonest behaviour bytes =
    (recording : Recording) × IsRecord bytes recording × IsFaithful behaviour recording

-- ---- the first difference

-- the bytes begin with the lines of these entries, and these lines follow
pub record BeginWith (entries : List Entry) (later : List (List ℕ)) (bytes : List ℕ)
    : Type 0 where
  pub whole : lines_in bytes ≡ map line_of entries ++ later
  pub are : AreEntries entries

-- behind a line, and behind none before it, more was sent than the session sends
pub record DiffersWithin (behaviour : Behaviour) (bytes : List ℕ) (number : ℕ) : Type 0 where
  pub before : List Entry
  pub entry : Entry
  pub later : List (List ℕ)
  pub begins : BeginWith (before ++ entry ∷ []) later bytes
  pub throughout : AgreesThroughout behaviour.sent before
  pub differs : Agrees behaviour.sent (before ++ entry ∷ []) → ⊥
  pub here : number ≡ length before + 1

-- no line before the last differs, and the last one does
pub record DiffersAtEnd (behaviour : Behaviour) (bytes : List ℕ) (number : ℕ) : Type 0 where
  pub entries : List Entry
  pub status : ℕ
  pub later : List (List ℕ)
  pub begins : BeginWith entries (end_line status ∷ later) bytes
  pub is_status : is_status status ≡ true
  pub throughout : AgreesThroughout behaviour.sent entries
  pub differs : EndsRight behaviour (record { entries = entries; status = status }) → ⊥
  pub here : number ≡ length entries + 1

-- the line of this number, counted from 1, is the first that differs
abbrev pub DiffersAt : Behaviour → List ℕ → ℕ → Type 0
DiffersAt behaviour bytes number =
    DiffersWithin behaviour bytes number ⊎ DiffersAtEnd behaviour bytes number

-- it is the first that no record has there, and no line before it differs
abbrev pub IsBadAt : Behaviour → List ℕ → ℕ → Type 0
IsBadAt behaviour bytes number =
    IsFirstBad bytes number
    × ((earlier : ℕ) → earlier < number → DiffersAt behaviour bytes earlier → ⊥)

-- ---- what is answered of bytes

abbrev pub Judges : Behaviour → List ℕ → Result Verdict AuditError → Type 0
Judges behaviour bytes (Ok Honest) = IsHonest behaviour bytes
Judges behaviour bytes (Ok (Differs line)) = DiffersAt behaviour bytes line
Judges behaviour bytes (Err (BadRecord line)) = IsBadAt behaviour bytes line
Judges behaviour bytes (Err ReadFault) = ⊤
Judges behaviour bytes (Err Memory) = ⊤

-- the bytes decide: no fault, and no lack of memory
abbrev pub is_verdict : Result Verdict AuditError → Bool
is_verdict (Ok verdict) = true
is_verdict (Err (BadRecord line)) = true
is_verdict (Err ReadFault) = false
is_verdict (Err Memory) = false
