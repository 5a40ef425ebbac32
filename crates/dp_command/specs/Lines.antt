-- The line that bytes spell, as a function. `line_of_is_spelt` says that it is the one line of the
-- grammar; how it is computed (inner/Parts) need not be read.
use Rattle.std.specs.Prelude.{◌≡◌, ℕ, List, Option, Some, None, option_map, Result, Ok, Err}
use Rattle.base64.specs.Engines.{standard}
use Rattle.base64.specs.GeneralPurpose.{decoded_of}
use Rattle.dp_command.specs.declared.errors.LineError.{LineError}
use Rattle.dp_command.specs.declared.errors.LineError.TheVariants as errors
use Rattle.dp_command.specs.declared.line.Line.{Line}
use Rattle.dp_command.specs.inner.Parts.{◌>>=◌, parts_at}

abbrev pub line_with : List ℕ → List (ℕ × List ℕ) → Option (List ℕ) → Line
line_with name options payload = record { name = name; options = options; payload = payload }

-- the line with the payload that this text encodes, where there is a text
abbrev pub with_text : List ℕ → List (ℕ × List ℕ) → Option (List ℕ) → Option Line
with_text name options None = Some (line_with name options None)
with_text name options (Some text) =
    option_map (λ payload. line_with name options (Some payload)) (decoded_of standard text)

-- the line that the bytes spell, if they spell one
unfoldable pub line_of : List ℕ → Option Line
line_of bytes = parts_at bytes >>= λ parts. with_text parts.0 parts.1 parts.2

-- what a function that reads answers, seen by view: what there is, or a refusal where there is
-- none, unless memory ran out
abbrev pub Fails : {Y : Type 0} → LineError → Option Y → Type 0
Fails errors.Memory read = Unit {0}
Fails errors.Parse read = read ≡ None

abbrev pub Gives : {X Y : Type 0} → (X → Y) → Result X LineError → Option Y → Type 0
Gives view (Ok x) read = read ≡ Some (view x)
Gives view (Err e) read = Fails e read
