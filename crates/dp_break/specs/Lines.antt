-- The line that a breakpoint has where one is asked for: that line, or, for an IDE that lets it
-- move, the next one that has code.
use Rattle.std.specs.Prelude.{ℕ, ◌==◌, nat_lt, Bool, ◌||◌, if◌then◌else◌, slice_get, Option, Some, None, Result, Ok, Err}
use Rattle.std.specs.Option.{option_map_or}
use Rattle.dp_parse.specs.NextCode.{next_code}
use Rattle.dp_tree.specs.declared.bundle.Bundle.{Bundle}
use Rattle.dp_tree.specs.CodeLines.{file_lines, has_line}
use Rattle.dp_tree.specs.declared.tree.File.{File}
use Rattle.dp_packet.specs.declared.error_codes.ErrorCode.{ErrorCode}
use Rattle.dp_packet.specs.declared.error_codes.ErrorCode.TheVariants.{InvalidBreakpointLine, NoCodeOnLine}

-- what is found, or the code where nothing is
abbrev pub found_or : {A : Type 0} → ErrorCode → Option A → Result A ErrorCode
found_or code None = Err code
found_or code (Some a) = Ok a

-- the line with code that is meant by one: where it may move, the next
abbrev pub line_meant : Bool → File → ℕ → Option ℕ
line_meant resolve file line =
    if resolve then next_code file line
    else if has_line (file_lines file) line then Some line
    else None

-- the line that is kept of one of a file; or that the file does not have it, or that no code is
-- there
abbrev pub line_kept : Bool → File → ℕ → Result ℕ ErrorCode
line_kept resolve file line =
    if line == 0 || nat_lt file.lines line then Err InvalidBreakpointLine
    else found_or NoCodeOnLine (line_meant resolve file line)

-- as a line that may be missing
abbrev pub given_line : Result ℕ ErrorCode → Result (Option ℕ) ErrorCode
given_line (Ok line) = Ok (Some line)
given_line (Err code) = Err code

-- the line that is kept of one that was asked for, if one was, of the file of this number
abbrev pub requested_line : Bool → Bundle → Option ℕ → Option ℕ → Result (Option ℕ) ErrorCode
requested_line resolve bundle (Some file) (Some line) =
    option_map_or (λ f. given_line (line_kept resolve f.tree line)) (slice_get bundle.files file)
    (Err InvalidBreakpointLine)
requested_line resolve bundle file line = Ok line

-- the line, where it is kept
abbrev pub line_in : Result (Option ℕ) ErrorCode → Option ℕ
line_in (Ok line) = line
line_in (Err code) = None
