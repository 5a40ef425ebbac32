-- Which lines are commands, whatever the state of the session; where a line is none, its first
-- refusal.
use Rattle.std.specs.Prelude.{ℕ, Bool, true, false, not, ◌&&◌, ◌||◌, ◌==◌, List, [], ◌∷◌, length, Option, Some, None, if◌then◌else◌, is_some, is_none, nat_le}
use Rattle.std.specs.List.{find, list_all, list_any}
use Rattle.dp_command.specs.declared.line.Line.{Line}
use Rattle.dp_command.specs.declared.names.CommandName.{CommandName}
use Rattle.dp_command.specs.declared.errors.Refusal.{Refusal}
use Rattle.dp_command.specs.declared.errors.Refusal.TheVariants.{Duplicate, Unimplemented, NoId, InvalidOptions}
use Rattle.dp_command.specs.declared.slots.Slot.{Slot}
use Rattle.dp_command.specs.declared.slots.Slot.TheVariants.{Required, Optional}
use Rattle.dp_command.specs.declared.slots.Kind.{Kind}
use Rattle.dp_command.specs.declared.slots.Kind.TheVariants.{Text, Number, Mode}
use Rattle.dp_command.specs.declared.slots.Presence.{Presence}
use Rattle.dp_command.specs.declared.slots.Presence.TheVariants as presence
use Rattle.dp_command.specs.Letters as letter
use Rattle.dp_command.specs.Names.{name_of}
use Rattle.dp_packet.specs.declared.error_codes.ErrorCode.{ErrorCode}
use Rattle.dp_packet.specs.declared.error_codes.ErrorCode.TheVariants as code
use Rattle.dp_bytes.specs.Decimals.{decimal_in}
use Rattle.dp_command.specs.Numbers.{greatest}
use Rattle.dp_command.specs.Options.{Options, given, is_given, has_duplicate, mode_of}
use Rattle.dp_command.specs.Table.{slots_of, payload_of}
use Rattle.dp_command.specs.Tests.{Test}

-- ---- the transaction id

-- a byte from 0x21 to 0x7e
abbrev pub is_visible : ℕ → Bool
is_visible b = nat_le 33 b && nat_le b 126

-- the most bytes of a transaction id
abbrev pub id_limit : ℕ
id_limit = 64

-- 1 to 64 such bytes
abbrev pub is_id : List ℕ → Bool
is_id value = nat_le 1 (length value) && nat_le (length value) id_limit && list_all is_visible value

abbrev pub id_in : Option (List ℕ) → List ℕ
id_in None = []
id_in (Some value) = if is_id value then value else []

-- what the first -i has, where it is an id; else nothing
abbrev pub id_of : Line → List ℕ
id_of line = id_in (given letter.i line.options)

-- ---- the row of the table

abbrev pub has_kind : Kind → List ℕ → Bool
has_kind Text value = true
has_kind Number value = is_some (decimal_in greatest value)
has_kind Mode value = is_some (mode_of value)

-- the option is this one, and its value may be so
abbrev pub accepts : ℕ × List ℕ → Slot → Bool
accepts o (Required own kind) = o.0 == own && has_kind kind o.1
accepts o (Optional own kind) = o.0 == own && has_kind kind o.1

-- the option is -i or stands in the row, and is not malformed
abbrev pub is_accepted : List Slot → ℕ × List ℕ → Bool
is_accepted slots o = o.0 == letter.i || list_any (accepts o) slots

-- the option is given, where it is required
abbrev pub is_met : Options → Slot → Bool
is_met options (Required own kind) = is_given own options
is_met options (Optional own kind) = true

abbrev pub takes_payload : Presence → Option (List ℕ) → Bool
takes_payload presence.Never payload = is_none payload
takes_payload presence.Optional payload = true
takes_payload presence.Required payload = is_some payload

-- nothing is missing, nothing stands there that is not in the row, and nothing is malformed
unfoldable pub fits_row : CommandName → Line → Bool
fits_row name line =
    list_all (is_accepted (slots_of name)) line.options
    && list_all (is_met line.options) (slots_of name)
    && takes_payload (payload_of name) line.payload

-- ---- the first refusal

-- a command of no name fits no row
abbrev pub fits : Option CommandName → Line → Bool
fits None line = false
fits (Some name) line = fits_row name line

-- the test of each refusal
abbrev pub holds_of : Line → Refusal → Bool
holds_of line Duplicate = has_duplicate line.options
holds_of line Unimplemented = is_none (name_of line.name)
holds_of line NoId = length (id_of line) == 0
holds_of line InvalidOptions = not (fits (name_of line.name) line)

-- the first of these, in this order, whose test holds of the line: the tests in which the row has
-- no part
abbrev pub admission_refusal : Line → Option Refusal
admission_refusal line = find (holds_of line) (Duplicate ∷ Unimplemented ∷ NoId ∷ [])

-- the first of all
abbrev pub first_refusal : Line → Option Refusal
first_refusal line = find (holds_of line) (Duplicate ∷ Unimplemented ∷ NoId ∷ InvalidOptions ∷ [])

-- the code of an error response. DBGp 1.0, "Error Codes"
abbrev pub code_of : Refusal → ErrorCode
code_of Duplicate = code.DuplicateArguments
code_of Unimplemented = code.UnimplementedCommand
code_of NoId = code.InvalidOptions
code_of InvalidOptions = code.InvalidOptions

-- the test of a refusal, with its code
abbrev pub coded : Line → Refusal → Test
coded line refusal = (holds_of line refusal, code_of refusal)
