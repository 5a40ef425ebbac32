-- What one line says.
use Rattle.std.specs.Prelude.{◌≡◌, ◌≢◌, ℕ, nat_le, Bool, true, ◌&&◌, ◌||◌, List, Option, Some, None}
use Rattle.hex.specs.Hex.{encode_lower}
use Rattle.dp_records.specs.declared.entry.Entry.{Entry}
use Rattle.dp_records.specs.declared.lines.Line.{Line}
use Rattle.dp_records.specs.declared.lines.Line.TheVariants.{Reported, Ends}
use Rattle.dp_records.specs.Records.{IsPiece, end_line, line_of}
use Rattle.dp_records.specs.Statuses.{is_status}

abbrev pub Says : List ℕ → Line → Type 0
Says line (Reported entry) = (line ≡ line_of entry) × IsPiece entry.bytes
Says line (Ends status) = (line ≡ end_line status) × (is_status status ≡ true)

-- no line of a record is this one
pub record IsNoLine (line : List ℕ) : Type 0 where
  pub reports_none : (entry : Entry) → IsPiece entry.bytes → line ≢ line_of entry
  pub ends_none : (status : ℕ) → is_status status ≡ true → line ≢ end_line status

abbrev pub SaysSo : List ℕ → Option Line → Type 0
SaysSo line None = IsNoLine line
SaysSo line (Some said) = Says line said

-- the digits spell a piece, or none
abbrev pub Spells : List ℕ → Option (List ℕ) → Type 0
Spells digits None = (bytes : List ℕ) → IsPiece bytes → digits ≢ encode_lower bytes
Spells digits (Some bytes) = (digits ≡ encode_lower bytes) × IsPiece bytes

-- a hexadecimal digit, with a small letter where it has one
abbrev pub is_small_digit : ℕ → Bool
is_small_digit digit = (nat_le 48 digit && nat_le digit 57) || (nat_le 97 digit && nat_le digit 102)
