-- Why a splitter of bodies refuses what it holds.
use Rattle.std.specs.Prelude.{◌≡◌, ℕ, ◌+◌, ◌/◌, ◌<◌, ◌≤◌, List, ◌++◌, length, take}
use Rattle.std.specs.Fmt.{decimal}
use Rattle.dp_wire.specs.Received.{Received, place_of}
use Rattle.dp_bodies.specs.Frames.{body_limit, length_name, IsPartialBody, BeginsNoBody}
use Rattle.dp_bodies.specs.declared.errors.BodyError.{BodyError}
use Rattle.dp_bodies.specs.declared.errors.BodyError.TheVariants.{BadHead, TooLong}

-- the first byte with which no frame begins
pub record IsFirstBad (bytes : List ℕ) (index : ℕ) : Type 0 where
  pub there : index < length bytes
  pub before : IsPartialBody (take index bytes)
  pub none : BeginsNoBody (take (index + 1) bytes)

-- the first digits that pass the limit spell this number
pub record PassesLimit (bytes : List ℕ) (number : ℕ) : Type 0 where
  pub after : List ℕ
  pub whole : bytes ≡ length_name ++ (decimal number ++ after)
  pub passes : body_limit < number
  pub first : number / 10 ≤ body_limit

-- the byte at this place of the stream is the first bad one, and no length passes the limit
pub record HasBadHead (received : Received) (offset : ℕ) : Type 0 where
  pub index : ℕ
  pub is_first : IsFirstBad received.held index
  pub place : offset ≡ place_of received index
  pub short : (number : ℕ) → PassesLimit received.held number → ⊥

-- why the bytes held begin no frame
abbrev pub IsCause : Received → BodyError → Type 0
IsCause received (BadHead offset) = HasBadHead received offset
IsCause received (TooLong number) = PassesLimit received.held number

-- the place of a refusal: its byte, or where the length passes the limit the first byte of the
-- frame
abbrev pub refused_at : BodyError → ℕ → ℕ
refused_at (BadHead offset) start = offset
refused_at (TooLong number) start = start
