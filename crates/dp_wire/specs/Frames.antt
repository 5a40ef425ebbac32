-- How messages are framed on a link: DBGp 1.0, "Message Packets". An IDE sends a command and a NUL.
-- An engine sends the length of a text in decimal, a NUL, the text, and a NUL.
use Rattle.std.specs.Prelude.{◌≡◌, ◌≢◌, ℕ, zero, suc, ◌+◌, ◌≤◌, Bool, true, false, not, ◌&&◌, List, [], ◌∷◌, ◌++◌, length, take, drop, Option, None, Some, if◌then◌else◌, ◌==◌, nat_le}
use Rattle.std.specs.List.{list_all, flat_map, AllByRecursion}
use Rattle.std.specs.Fmt.{decimal}
use Rattle.std.specs.Str.Parse.{digits_value}

-- ---- frames in general

-- The bytes are the frames of these texts, and then the rest, which no whole frame begins.
pub record Splits (IsText : List ℕ → Type 0) (frame : List ℕ → List ℕ) (bytes : List ℕ)
    (texts : List (List ℕ)) (rest : List ℕ) : Type 0 where
  pub whole : bytes ≡ flat_map frame texts ++ rest
  pub each : AllByRecursion IsText texts
  pub no_more : (text more : List ℕ) → IsText text → rest ≡ frame text ++ more → ⊥

-- The bytes begin with the frame of this text, and the rest follows it.
pub record Begins (IsText : List ℕ → Type 0) (frame : List ℕ → List ℕ)
    (bytes text rest : List ℕ) : Type 0 where
  pub is_text : IsText text
  pub whole : bytes ≡ frame text ++ rest

-- The bytes are a proper prefix of a frame: more has to come.
pub record IsPartial (IsText : List ℕ → Type 0) (frame : List ℕ → List ℕ)
    (bytes : List ℕ) : Type 0 where
  pub text : List ℕ
  pub more : List ℕ
  pub is_text : IsText text
  pub comes : more ≢ []
  pub whole : bytes ++ more ≡ frame text

-- However the bytes go on, no frame begins them.
abbrev pub BeginsNoFrame : (List ℕ → Type 0) → (List ℕ → List ℕ) → List ℕ → Type 0
BeginsNoFrame IsText frame bytes =
    (text rest more : List ℕ) → IsText text → bytes ++ more ≡ frame text ++ rest → ⊥

-- ---- commands, from the IDE to the engine

-- the most bytes of a command, without its NUL
abbrev pub command_limit : ℕ
command_limit = 1048576

-- no byte is NUL
abbrev pub has_no_nul : List ℕ → Bool
has_no_nul bytes = list_all (λ b. not (b == 0)) bytes

-- the first NUL stands behind so many bytes; or there is none
abbrev pub FirstNul : List ℕ → Option ℕ → Type 0
FirstNul bytes None = has_no_nul bytes ≡ true
FirstNul bytes (Some place) =
    (has_no_nul (take place bytes) ≡ true)
    × (bytes ≡ take place bytes ++ 0 ∷ drop (place + 1) bytes)

pub record IsCommand (line : List ℕ) : Type 0 where
  pub no_nul : has_no_nul line ≡ true
  pub fits : length line ≤ command_limit

abbrev pub command_frame : List ℕ → List ℕ
command_frame line = line ++ 0 ∷ []

-- the first text with one byte more in front of it
abbrev pub widened : ℕ → List (List ℕ) → List (List ℕ)
widened byte [] = []
widened byte (text ∷ texts) = (byte ∷ text) ∷ texts

-- the texts that a NUL ends, in their order
abbrev pub ended_texts : List ℕ → List (List ℕ)
ended_texts [] = []
ended_texts (byte ∷ bytes) =
    if byte == 0 then [] ∷ ended_texts bytes else widened byte (ended_texts bytes)

-- the texts before the first that passes the limit of a command
abbrev pub up_to_limit : List (List ℕ) → List (List ℕ)
up_to_limit [] = []
up_to_limit (text ∷ texts) =
    if nat_le (length text) command_limit then text ∷ up_to_limit texts else []

-- the whole commands at the front of the bytes, and what follows their frames
abbrev pub commands_in : List ℕ → List (List ℕ)
commands_in bytes = up_to_limit (ended_texts bytes)

abbrev pub rest_of : List ℕ → List ℕ
rest_of bytes = drop (length (flat_map command_frame (commands_in bytes))) bytes

abbrev pub BeginsCommand : List ℕ → List ℕ → List ℕ → Type 0
BeginsCommand = Begins IsCommand command_frame

abbrev pub IsPartialCommand : List ℕ → Type 0
IsPartialCommand = IsPartial IsCommand command_frame

abbrev pub BeginsNoCommand : List ℕ → Type 0
BeginsNoCommand = BeginsNoFrame IsCommand command_frame

-- ---- packets, from the engine to the IDE

-- the most bytes of a packet's text
abbrev pub packet_limit : ℕ
packet_limit = 16777216

pub record IsPacketText (text : List ℕ) : Type 0 where
  pub some_byte : 1 ≤ length text
  pub fits : length text ≤ packet_limit

abbrev pub packet_frame : List ℕ → List ℕ
packet_frame text = decimal (length text) ++ 0 ∷ [] ++ text ++ 0 ∷ []

-- the bytes before the first NUL, or all
abbrev pub up_to_nul : List ℕ → List ℕ
up_to_nul [] = []
up_to_nul (byte ∷ bytes) = if byte == 0 then [] else byte ∷ up_to_nul bytes

-- what stands in the place of a packet's text: behind the first NUL, as many bytes as the digits
-- before it say
abbrev pub front_text : List ℕ → List ℕ
front_text bytes =
    take (digits_value 10 (up_to_nul bytes)) (drop (length (up_to_nul bytes) + 1) bytes)

abbrev pub begins_with : List ℕ → List ℕ → Bool
begins_with bytes [] = true
begins_with [] (wanted ∷ front) = false
begins_with (byte ∷ bytes) (wanted ∷ front) = byte == wanted && begins_with bytes front

-- that is a packet's text, and its frame begins the bytes
abbrev pub is_packet_first : List ℕ → Bool
is_packet_first bytes =
    nat_le 1 (length (front_text bytes)) && nat_le (length (front_text bytes)) packet_limit
    && begins_with bytes (packet_frame (front_text bytes))

-- the first packets at the front of the bytes, at most so many
abbrev pub first_packets : ℕ → List ℕ → List (List ℕ)
first_packets zero bytes = []
first_packets (suc count) bytes =
    if is_packet_first bytes
    then front_text bytes
    ∷ first_packets count (drop (length (packet_frame (front_text bytes))) bytes) else []

-- the whole packets at the front of the bytes, and what follows their frames
abbrev pub packets_in : List ℕ → List (List ℕ)
packets_in bytes = first_packets (length bytes) bytes

abbrev pub rest_of_packets : List ℕ → List ℕ
rest_of_packets bytes = drop (length (flat_map packet_frame (packets_in bytes))) bytes

abbrev pub BeginsPacket : List ℕ → List ℕ → List ℕ → Type 0
BeginsPacket = Begins IsPacketText packet_frame

abbrev pub IsPartialPacket : List ℕ → Type 0
IsPartialPacket = IsPartial IsPacketText packet_frame

abbrev pub BeginsNoPacket : List ℕ → Type 0
BeginsNoPacket = BeginsNoFrame IsPacketText packet_frame
