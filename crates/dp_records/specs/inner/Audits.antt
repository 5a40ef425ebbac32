-- How far a record is read, and its session with it.
use Rattle.std.specs.Prelude.{◌≡◌, ◌≢◌, ◌↔◌, ℕ, ◌<◌, ◌≤◌, Bool, true, not, ◌==◌, List, [], ◌∷◌, ◌++◌, length, IsTrue, Option, Some, None, ⊤}
use Rattle.std.specs.List.{flat_map, list_all}
use Rattle.dp_conversation.specs.Folds.{Reply}
use Rattle.dp_conversation.specs.Growth.{Begins, served}
use Rattle.dp_conversation.specs.Service.{byte_limit}
use Rattle.dp_records.specs.declared.entry.Entry.{Entry}
use Rattle.dp_records.specs.declared.audits.Audit.{Audit}
use Rattle.dp_records.specs.declared.audits.Fit.{Fit}
use Rattle.dp_records.specs.declared.audits.Fit.TheVariants.{Fits, Differs, TooMuch}
use Rattle.dp_records.specs.declared.readings.Halt.{Halt}
use Rattle.dp_records.specs.declared.readings.Halt.TheVariants as halt
use Rattle.dp_records.specs.declared.readings.Reading.{Reading}
use Rattle.dp_records.specs.declared.verdict.AuditError.{AuditError}
use Rattle.dp_records.specs.declared.verdict.AuditError.TheVariants.{BadRecord, ReadFault, Memory}
use Rattle.dp_outside.specs.Causes.{Rose}
use Rattle.dp_outside.specs.Changes.{Change}
use Rattle.dp_records.specs.Records.{AreEntries, IsPiece, end_line, given, line_of, own, sent}
use Rattle.dp_records.specs.Statuses.{is_status}
use Rattle.dp_records.specs.Verdicts.{Agrees, AgreesThroughout}
use Rattle.dp_records.specs.inner.Balances.{IsBalance}
use Rattle.dp_records.specs.inner.Turns.{StopsBy}
use Rattle.dp_wire.specs.Frames.{packet_frame, rest_of}

-- what a session sends that began in this state, with this packet
abbrev pub sends : {S E : Type 0} → (S → List ℕ → Reply S E) → S → List ℕ → List ℕ → List ℕ
sends step start init bytes =
    packet_frame init ++ flat_map packet_frame (served step start bytes).packets

-- no byte is a line feed
abbrev pub has_no_feed : List ℕ → Bool
has_no_feed bytes = list_all (λ b. not (b == 10)) bytes

-- one line feed, at the end
pub record EndsLine (bytes : List ℕ) : Type 0 where
  pub front : List ℕ
  pub whole : bytes ≡ front ++ 10 ∷ []
  pub no_feed : has_no_feed front ≡ true

-- no line of a record, with these entries before it, begins the bytes
pub record StartsNoLine (entries : List Entry) (bytes : List ℕ) : Type 0 where
  pub reports_none : (entry : Entry) (more : List ℕ) → IsPiece entry.bytes
      → length (given (entries ++ entry ∷ [])) ≤ byte_limit → bytes ≢ line_of entry ++ more
  pub ends_none : (status : ℕ) (more : List ℕ) → is_status status ≡ true
      → bytes ≢ end_line status ++ more

module _ {S E : Type 0} (step : S → List ℕ → Reply S E) (start : S) (init : List ℕ) where
  -- ---- the entries so far

  -- They agree. The session was sent what they gave, and what it told is balanced with what they
  -- tell.
  pub record IsAudit (entries : List Entry) (audit : Audit S E) : Type 0 where
    pub read : List ℕ
    pub are : AreEntries entries
    pub all_given : given entries ≡ read
    pub is_given : audit.given ≡ length read
    pub front : Begins (sent entries) (sends step start init read)
    pub is_state : audit.talk.session ≡ (served step start read).state
    pub stops : StopsBy audit.over (served step start read).ended audit.talk.held.held
        (rest_of read)
    pub sent_balance : IsBalance audit.sent (sends step start init read) (sent entries)
    pub own_balance : IsBalance audit.own (served step start read).program (own entries)

  -- what one entry more does
  abbrev pub FitsSo : Fit → List Entry → Audit S E → Type 0
  FitsSo Fits entries audit = IsAudit entries audit
  FitsSo Differs entries audit =
      AreEntries entries × (Agrees (sends step start init) entries → ⊥)
  FitsSo TooMuch entries audit = byte_limit < length (given entries)

  -- ---- the lines so far

  -- the bytes are the lines of these entries, all of which agree, and then those
  pub record Come (entries : List Entry) (later bytes : List ℕ) (number : ℕ) : Type 0 where
    pub whole : bytes ≡ flat_map line_of entries ++ later
    pub are : AreEntries entries
    pub throughout : AgreesThroughout (sends step start init) entries
    pub is_number : number ≡ length entries

  -- so far the bytes read are these lines, and the front of one
  pub record IsReading (bytes : List ℕ) (reading : Reading S E) : Type 0 where
    pub entries : List Entry
    pub come : Come entries reading.line.items bytes reading.number
    pub no_feed : has_no_feed reading.line.items ≡ true
    pub audit : IsAudit entries reading.audit

  -- so far they are these lines, and a whole one that was not taken yet
  pub record HasLine (bytes : List ℕ) (reading : Reading S E) : Type 0 where
    pub entries : List Entry
    pub come : Come entries reading.line.items bytes reading.number
    pub line : EndsLine reading.line.items
    pub audit : IsAudit entries reading.audit

  -- the next line is the last one
  pub record ComesEnd (status : ℕ) (more : Bool) (bytes : List ℕ) (reading : Reading S E)
      : Type 0 where
    pub entries : List Entry
    pub rest : List ℕ
    pub come : Come entries (end_line status ++ rest) bytes reading.number
    pub is_status : is_status status ≡ true
    pub is_more : IsTrue more ↔ (rest ≢ [])
    pub audit : IsAudit entries reading.audit

  -- the next line differs
  pub record ComesDifferent (bytes : List ℕ) (number : ℕ) : Type 0 where
    pub entries : List Entry
    pub entry : Entry
    pub rest : List ℕ
    pub come : Come entries (line_of entry ++ rest) bytes number
    pub are : AreEntries (entries ++ entry ∷ [])
    pub differs : Agrees (sends step start init) (entries ++ entry ∷ []) → ⊥

  -- the next line is none, however the bytes go on
  pub record ComesNone (bytes : List ℕ) (number : ℕ) : Type 0 where
    pub entries : List Entry
    pub rest : List ℕ
    pub come : Come entries rest bytes number
    pub none : (more : List ℕ) → StartsNoLine entries (rest ++ more)

  -- why no further line is read
  abbrev pub HaltsBy : Halt → List ℕ → Reading S E → Type 0
  HaltsBy (halt.Ends status more) bytes reading = ComesEnd status more bytes reading
  HaltsBy halt.Differs bytes reading = ComesDifferent bytes reading.number
  HaltsBy halt.Bad bytes reading = ComesNone bytes reading.number

  -- the line was taken; these bytes are behind it
  abbrev pub TakesLine : Option Halt → List ℕ → List ℕ → Reading S E → Type 0
  TakesLine None bytes behind reading = IsReading bytes reading
  TakesLine (Some halt) bytes behind reading = HaltsBy halt (bytes ++ behind) reading

  -- the next line is none, and no more comes than these
  pub record IsNone (bytes : List ℕ) (number : ℕ) : Type 0 where
    pub entries : List Entry
    pub rest : List ℕ
    pub come : Come entries rest bytes number
    pub none : StartsNoLine entries rest

  -- why no further line is read, where the first bytes were read and the others are left
  abbrev pub HaltsIn : Halt → List ℕ → List ℕ → Reading S E → Type 0
  HaltsIn (halt.Ends status more) bytes left reading = ComesEnd status more bytes reading
  HaltsIn halt.Differs bytes left reading = ComesDifferent bytes reading.number
  HaltsIn halt.Bad bytes left reading = IsNone (bytes ++ left) reading.number

  -- of all bytes the first were read, up to where no further line is
  pub record HaltsWithin (halt : Halt) (bytes left : List ℕ) (reading : Reading S E)
      : Type 0 where
    pub read : List ℕ
    pub whole : bytes ≡ read ++ left
    pub halts : HaltsIn halt read left reading

  -- the bytes were read on
  abbrev pub ReadsOn : Option Halt → List ℕ → Reading S E → Type 0
  ReadsOn None bytes reading = IsReading bytes reading
  ReadsOn (Some halt) bytes reading = HaltsBy halt bytes reading

-- why nothing is said
abbrev pub FailsBy : AuditError → Change → Type 0
FailsBy ReadFault source = Rose source.faults_before source.faults
FailsBy Memory source = ⊤
FailsBy (BadRecord line) source = ⊥
