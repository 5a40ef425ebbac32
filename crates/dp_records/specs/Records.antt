-- Records of sessions: a line for each piece of what a session was sent, of what it sent itself and
-- of what went to its program's own output, in the order in which they came; and a last line that
-- tells how it ended.
use Rattle.std.specs.Prelude.{◌≡◌, ℕ, ◌+◌, ◌<◌, ◌≤◌, ◌==◌, true, if◌then◌else◌, List, [], ◌∷◌, ◌++◌, length, map, codes}
use Rattle.std.specs.Fmt.{decimal}
use Rattle.std.specs.List.{flat_map, AllByRecursion}
use Rattle.hex.specs.Hex.{encode_lower}
use Rattle.dp_conversation.specs.Service.{byte_limit}
use Rattle.dp_grammar.specs.Lines.{begun}
use Rattle.dp_grammar.specs.Refused.{IsUnexpected}
use Rattle.dp_records.specs.declared.entry.Entry.{Entry}
use Rattle.dp_records.specs.declared.entry.Stream.{Stream}
use Rattle.dp_records.specs.declared.entry.Stream.TheVariants.{In, Out, Own}
use Rattle.dp_records.specs.Statuses.{is_status}

-- ---- a line that tells bytes

-- the most bytes that a line tells
abbrev pub piece_limit : ℕ
piece_limit = 65536

-- what a line may tell: at least one byte, and no more than that
pub record IsPiece (bytes : List ℕ) : Type 0 where
  pub some_byte : 1 ≤ length bytes
  pub fits : length bytes ≤ piece_limit
  pub are_bytes : AllByRecursion (λ b. b < 256) bytes

-- the session was sent the bytes, it sent them, or they went to its program's own output
abbrev pub word_of : Stream → List ℕ
word_of In = codes "in"
word_of Out = codes "out"
word_of Own = codes "own"

-- two hexadecimal digits for each byte, with small letters
abbrev pub line_of : Entry → List ℕ
line_of entry = word_of entry.stream ++ codes " " ++ encode_lower entry.bytes ++ codes "\n"

-- ---- the last line

abbrev pub end_line : ℕ → List ℕ
end_line status = codes "end " ++ decimal status ++ codes "\n"

-- ---- what lines tell

-- the bytes of a line, where they are of the stream
abbrev pub bytes_in : Stream → List ℕ → List ℕ
bytes_in In bytes = bytes
bytes_in Out bytes = []
bytes_in Own bytes = []

abbrev pub bytes_out : Stream → List ℕ → List ℕ
bytes_out In bytes = []
bytes_out Out bytes = bytes
bytes_out Own bytes = []

abbrev pub bytes_own : Stream → List ℕ → List ℕ
bytes_own In bytes = []
bytes_own Out bytes = []
bytes_own Own bytes = bytes

-- what the session was sent
abbrev pub given : List Entry → List ℕ
given entries = flat_map (λ entry. bytes_in entry.stream entry.bytes) entries

-- what it sent
abbrev pub sent : List Entry → List ℕ
sent entries = flat_map (λ entry. bytes_out entry.stream entry.bytes) entries

-- what went to its program's own output
abbrev pub own : List Entry → List ℕ
own entries = flat_map (λ entry. bytes_own entry.stream entry.bytes) entries

-- ---- records

-- what a record tells: its lines but the last, and the status of the last one
pub record Recording : Type 0 where
  pub entries : List Entry
  pub status : ℕ

-- a session is sent no more than it reads
pub record AreEntries (entries : List Entry) : Type 0 where
  pub each : AllByRecursion (λ entry. IsPiece entry.bytes) entries
  pub within : length (given entries) ≤ byte_limit

-- the lines, each with its line feed, tell this
pub record Tell (lines : List (List ℕ)) (recording : Recording) : Type 0 where
  pub whole : lines ≡ map line_of recording.entries ++ end_line recording.status ∷ []
  pub entries : AreEntries recording.entries
  pub status : is_status recording.status ≡ true

-- The lines of a text, each with its line feed. What stands behind the last line feed is a line
-- too, unless it is empty.
abbrev pub lines_in : List ℕ → List (List ℕ)
lines_in [] = []
lines_in (byte ∷ bytes) =
    if byte == 10 then (10 ∷ []) ∷ lines_in bytes else begun byte (lines_in bytes)

-- the bytes are a record of this
abbrev pub IsRecord : List ℕ → Recording → Type 0
IsRecord bytes recording = Tell (lines_in bytes) recording

-- The line of this number, counted from 1, is the first with which no record begins. It is the one
-- behind the last where there are too few.
abbrev pub IsFirstBad : List ℕ → ℕ → Type 0
IsFirstBad bytes number =
    (place : ℕ) × (number ≡ place + 1)
    × IsUnexpected (λ (u : Unit {0}). Tell) tt (lines_in bytes) place
