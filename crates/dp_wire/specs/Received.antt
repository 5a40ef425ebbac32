-- What a splitter of packets has received, and why it refuses.
use Rattle.std.specs.Prelude.{◌≡◌, ◌≢◌, ℕ, zero, suc, ◌+◌, ◌-◌, ◌/◌, ◌^◌, ◌<◌, ◌≤◌, ◌⊎◌, min, List, [], ◌∷◌, ◌++◌, length, take}
use Rattle.std.specs.Fmt.{decimal}
use Rattle.dp_wire.specs.Frames.{IsPacketText, packet_limit, IsPartialPacket, BeginsNoPacket}
use Rattle.dp_wire.specs.declared.errors.WireError.{WireError}
use Rattle.dp_wire.specs.declared.errors.WireError.TheVariants.{BadLength, NoNul, TooLong}

-- the bytes held, and how many of the stream were dropped before them; 2^64 - 1 stands for all that
-- pass it
pub record Received : Type 0 where
  pub held : List ℕ
  pub dropped : ℕ

abbrev pub last_place : ℕ
last_place = 2 ^ 64 - 1

-- the place in the stream of the byte held at this index
abbrev pub place_of : Received → ℕ → ℕ
place_of received index = min (received.dropped + index) last_place

-- the first byte with which no packet begins
pub record IsFirstBad (bytes : List ℕ) (index : ℕ) : Type 0 where
  pub there : index < length bytes
  pub before : IsPartialPacket (take index bytes)
  pub none : BeginsNoPacket (take (index + 1) bytes)

-- ---- lengths

-- the digits of a length so far: those of a number, or none
abbrev pub length_digits : ℕ → List ℕ
length_digits zero = []
length_digits (suc number) = decimal (suc number)

-- a length goes on with a digit from 1 to 9, and behind a first digit also with 0 or with its NUL
abbrev pub MayFollow : ℕ → ℕ → Type 0
MayFollow number byte = ((49 ≤ byte) × (byte ≤ 57)) ⊎ ((0 < number) × ((byte ≡ 48) ⊎ (byte ≡ 0)))

-- a byte that no length has at its place
pub record HasBadLength (bytes : List ℕ) (index : ℕ) : Type 0 where
  pub number : ℕ
  pub byte : ℕ
  pub after : List ℕ
  pub whole : bytes ≡ length_digits number ++ byte ∷ after
  pub fits : number ≤ packet_limit
  pub place : index ≡ length (length_digits number)
  pub bad : MayFollow number byte → ⊥

-- the first digits that pass the limit spell this number
pub record PassesLimit (bytes : List ℕ) (number : ℕ) : Type 0 where
  pub after : List ℕ
  pub whole : bytes ≡ decimal number ++ after
  pub passes : packet_limit < number
  pub first : number / 10 ≤ packet_limit

-- another byte in the place of the NUL behind a packet's text
pub record LacksNul (bytes : List ℕ) (index : ℕ) : Type 0 where
  pub text : List ℕ
  pub byte : ℕ
  pub after : List ℕ
  pub is_text : IsPacketText text
  pub whole : bytes ≡ decimal (length text) ++ 0 ∷ [] ++ text ++ byte ∷ after
  pub place : index ≡ length (decimal (length text) ++ 0 ∷ [] ++ text)
  pub not_nul : byte ≢ 0

-- ---- why no packet begins the bytes held

abbrev pub IsCause : Received → WireError → Type 0
IsCause received (BadLength offset) =
    (index : ℕ) × (HasBadLength received.held index × IsFirstBad received.held index
    × (offset ≡ place_of received index))
IsCause received (NoNul offset) =
    (index : ℕ) × (LacksNul received.held index × IsFirstBad received.held index
    × (offset ≡ place_of received index))
IsCause received (TooLong number) = PassesLimit received.held number
