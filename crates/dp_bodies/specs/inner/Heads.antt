-- What held bytes say of the first head.
use Rattle.std.specs.Prelude.{◌≡◌, ◌≢◌, ℕ, ◌+◌, ◌*◌, ◌<◌, ◌≤◌, List, [], ◌++◌, length, take, drop, get_or}
use Rattle.std.specs.Fmt.{decimal}
use Rattle.dp_wire.specs.Received.{length_digits}
use Rattle.dp_bodies.specs.Frames.{body_limit, head}
use Rattle.dp_bodies.specs.Received.{PassesLimit}
use Rattle.dp_bodies.specs.declared.heads.Agreement.{Agreement}
use Rattle.dp_bodies.specs.declared.heads.Agreement.TheVariants.{Whole, Front, Differs}
use Rattle.dp_bodies.specs.declared.heads.Digits.{Digits}
use Rattle.dp_bodies.specs.declared.heads.Digits.TheVariants as digits
use Rattle.dp_bodies.specs.declared.heads.Head.{Head}
use Rattle.dp_bodies.specs.declared.heads.Head.TheVariants.{Unfinished, Known, Bad, Passed}

-- how far the bytes agree with what is wanted
abbrev pub Agrees : List ℕ → List ℕ → Agreement → Type 0
Agrees bytes wanted Whole = bytes ≡ wanted ++ drop (length wanted) bytes
Agrees bytes wanted Front = (more : List ℕ) × (more ≢ []) × (bytes ++ more ≡ wanted)
Agrees bytes wanted (Differs index) =
    (index < length wanted) × (index < length bytes) × (take index bytes ≡ take index wanted)
    × (get_or bytes index 0 ≢ get_or wanted index 0)

abbrev pub IsDigit : ℕ → Type 0
IsDigit byte = (48 ≤ byte) × (byte ≤ 57)

-- the digits of a number so far, at the front of the bytes
abbrev pub AreDigits : List ℕ → Digits → Type 0
AreDigits bytes digits.Unfinished =
    (number : ℕ) × ((number ≤ body_limit) × (bytes ≡ length_digits number))
AreDigits bytes digits.None =
    (0 < length bytes) × ((49 ≤ get_or bytes 0 0) × (get_or bytes 0 0 ≤ 57) → ⊥)
AreDigits bytes (digits.Known end number) =
    (1 ≤ number) × (number ≤ body_limit) × (end < length bytes)
    × (take end bytes ≡ decimal number) × (IsDigit (get_or bytes end 0) → ⊥)
AreDigits bytes (digits.Passed number) =
    (after : List ℕ) × (bytes ≡ decimal number ++ after) × (body_limit < number)
    × (number ≤ 10 * body_limit + 9)

-- the bytes begin no head, first with the byte at this index
pub record HasBadByte (bytes : List ℕ) (index : ℕ) : Type 0 where
  pub there : index < length bytes
  pub number : ℕ
  pub some : 1 ≤ number
  pub fits : number ≤ body_limit
  pub more : List ℕ
  pub before : take index bytes ++ more ≡ head number
  pub comes : more ≢ []
  pub none : (n : ℕ) (rest behind : List ℕ) → 1 ≤ n → n ≤ body_limit
      → take (index + 1) bytes ++ rest ≡ head n ++ behind → ⊥
  pub short : (n : ℕ) → PassesLimit bytes n → ⊥

-- the bytes are a proper prefix of a head
pub record IsHeadFront (bytes : List ℕ) : Type 0 where
  pub number : ℕ
  pub some : 1 ≤ number
  pub fits : number ≤ body_limit
  pub more : List ℕ
  pub comes : more ≢ []
  pub whole : bytes ++ more ≡ head number

-- what the bytes say of the first head
abbrev pub IsHead : List ℕ → Head → Type 0
IsHead bytes Unfinished = IsHeadFront bytes
IsHead bytes (Known start number) =
    (1 ≤ number) × (number ≤ body_limit) × (start ≡ length (head number))
    × (bytes ≡ head number ++ drop start bytes)
IsHead bytes (Bad index) = HasBadByte bytes index
IsHead bytes (Passed number) = PassesLimit bytes number
