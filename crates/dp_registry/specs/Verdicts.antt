-- What each call is answered, by the entries before it, and what it leaves of the journal.
use Rattle.std.specs.Prelude.{◌≡◌, ◌⊎◌, ⊤, ℕ, ◌+◌, ◌==◌, nat_lt, Bool, ◌&&◌, ◌||◌, if◌then◌else◌}
use Rattle.std.specs.Prelude.{List, [], ◌∷◌, ◌++◌, length, Option, Some, None, bytes_eq}
use Rattle.std.specs.Prelude.{Result, Ok, Err}
use Rattle.dp_registry.specs.declared.entry.Entry.{Entry}
use Rattle.dp_registry.specs.declared.entry.AdmitReply.{AdmitReply}
use Rattle.dp_registry.specs.declared.entry.AdmitReply.TheVariants as admission
use Rattle.dp_registry.specs.declared.pass.Pass.{Pass}
use Rattle.dp_registry.specs.declared.refusal.Refusal.{Refusal}
use Rattle.dp_registry.specs.declared.refusal.Refusal.TheVariants.{Taken, Unknown, NotYours, Busy}
use Rattle.dp_registry.specs.declared.refusal.Refusal.TheVariants.{Full, Memory}
use Rattle.dp_registry.specs.Journal.{Holder, holder, live, live_under, next_session, least}

-- ---- room

-- the most entries that there may be, once each live session was dismissed
abbrev pub most_entries : ℕ
most_entries = 262144

-- the most live sessions
abbrev pub most_live : ℕ
most_live = 256

-- the entries that there are, and those with which the live sessions will be dismissed
abbrev pub load : List Entry → ℕ
load journal = length journal + length (live journal)

abbrev pub full : List Entry → Refusal
full journal = Full (length journal) (length (live journal))

-- there is no room for an entry
abbrev pub is_full : List Entry → Bool
is_full journal = nat_lt most_entries (load journal + 1)

-- there is no room for a session: its two entries, and one more live session
abbrev pub is_crowded : List Entry → Bool
is_crowded journal =
    nat_lt most_entries (load journal + 2) || (length (live journal) == most_live)

-- ---- verdicts

-- a key that is free, or that the same host and port hold, is registered
abbrev pub registering : Option Holder → List ℕ → ℕ → Result ⊤ Refusal
registering None host port = Ok tt
registering (Some holder) host port =
    if bytes_eq holder.host host && (holder.port == port) then Ok tt
    else Err (Taken holder.host holder.port)

abbrev pub register_verdict : List Entry → List ℕ → ℕ → List ℕ → Result ⊤ Refusal
register_verdict journal host port key =
    if is_full journal then Err (full journal) else registering (holder journal key) host port

-- a registration is stopped by its host
abbrev pub stopping : Option Holder → List ℕ → Result ⊤ Refusal
stopping None host = Err Unknown
stopping (Some holder) host = if bytes_eq holder.host host then Ok tt else Err NotYours

abbrev pub stop_verdict : List Entry → List ℕ → List ℕ → Result ⊤ Refusal
stop_verdict journal host key =
    if is_full journal then Err (full journal) else stopping (holder journal key) host

abbrev pub unless_busy : Option ℕ → Pass → Result Pass Refusal
unless_busy None pass = Ok pass
unless_busy (Some session) pass = Err (Busy session)

-- a registration that does not take several sessions is busy with its least live one
abbrev pub admitting : Option Holder → List ℕ → ℕ → Result Pass Refusal
admitting None sessions session = Err Unknown
admitting (Some holder) sessions session =
    unless_busy (if holder.multiple then None else least sessions)
    (record { session = session; host = holder.host; port = holder.port })

abbrev pub admit_verdict : List Entry → List ℕ → Result Pass Refusal
admit_verdict journal key =
    if is_crowded journal then Err (full journal)
    else admitting (holder journal key) (live_under key journal) (next_session journal)

-- a call is answered its verdict, or out of memory
abbrev pub IsAnswer : {X : Type 0} → Result X Refusal → Result X Refusal → Type 0
IsAnswer verdict answer = (answer ≡ Err Memory) ⊎ (answer ≡ verdict)

-- ---- entries

-- the number with which a registration or a stop is answered in its entry, where it makes one
abbrev pub reply_of : Result ⊤ Refusal → Option ℕ
reply_of (Ok done) = Some 0
reply_of (Err (Taken host port)) = Some 1
reply_of (Err Unknown) = Some 2
reply_of (Err NotYours) = Some 3
reply_of (Err (Busy session)) = None
reply_of (Err (Full events sessions)) = None
reply_of (Err Memory) = None

-- the answer to an engine in its entry, where it makes one
abbrev pub admit_reply_of : Result Pass Refusal → Option AdmitReply
admit_reply_of (Ok pass) = Some (admission.Given pass.session pass.host pass.port)
admit_reply_of (Err (Taken host port)) = None
admit_reply_of (Err Unknown) = Some admission.Unknown
admit_reply_of (Err NotYours) = None
admit_reply_of (Err (Busy session)) = Some (admission.Busy session)
admit_reply_of (Err (Full events sessions)) = None
admit_reply_of (Err Memory) = None

-- the journal after a call, whose entry goes last; a call without a reply makes none
abbrev pub noted : {R : Type 0} → List Entry → (R → Entry) → Option R → List Entry
noted journal entry None = journal
noted journal entry (Some reply) = journal ++ entry reply ∷ []
