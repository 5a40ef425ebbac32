-- What is reported of a failure: a status, and a line on the error output.
use Rattle.std.specs.Prelude.{◌⊎◌, ℕ, List, [], ◌++◌, codes, Option, Some, None}
use Rattle.std.specs.Fmt.{decimal}
use Rattle.std.specs.Io.KnownBytes.{Appends}
use Rattle.dp_outside.specs.Causes.{Rose}
use Rattle.dp_outside.specs.Changes.{Change}
use Rattle.dp_outside.specs.Streams.{AppendsFront}
use Rattle.dp_tree.specs.FileNames.{file_limit}
use Rattle.dp_state.specs.declared.moments.FatalKind.{FatalKind}
use Rattle.dp_state.specs.declared.moments.FatalKind.TheVariants as kinds
use Rattle.dp_top.specs.declared.failures.Failure.{Failure}
use Rattle.dp_top.specs.declared.failures.Failure.TheVariants.{TooLong, Source, ShelfFailed, NoFile, Fatal, Bound, Output, Script, Differs, PeerEnd, Packet, Network, Stopped, Lies, Memory}
use Rattle.dp_top.specs.Sources.{reason_name, bad_source}
use Rattle.dp_state.specs.Statuses.{killed_status, unfinished_status}
use Rattle.dp_top.specs.Statuses.{source_status, shelf_status, output_status, script_status, differs_status, peer_end_status, packet_status, network_status, memory_status, lies_status}

-- why a command fails, by a name that other crates can say
abbrev pub CommandFailure : Type 0
CommandFailure = Failure

-- the status that the call answers
abbrev pub status_of : Failure → ℕ
status_of TooLong = source_status
status_of (Source reason number) = source_status
status_of ShelfFailed = shelf_status
status_of NoFile = shelf_status
status_of (Fatal kind line) = unfinished_status
status_of (Bound steps) = unfinished_status
status_of Output = output_status
status_of (Script line) = script_status
status_of (Differs line wanted found) = differs_status
status_of PeerEnd = peer_end_status
status_of (Packet offset) = packet_status
status_of Network = network_status
status_of Stopped = killed_status
status_of (Lies line) = lies_status
status_of Memory = memory_status

-- the name of a fatal fault
abbrev pub kind_name : FatalKind → List ℕ
kind_name kinds.Overflow = codes "Overflow"
kind_name kinds.DivByZero = codes "DivByZero"
kind_name kinds.BadKey = codes "BadKey"
kind_name kinds.NextIndex = codes "NextIndex"
kind_name kinds.Unsupported = codes "Unsupported"
kind_name kinds.TooHeavy = codes "TooHeavy"
kind_name kinds.NoFunction = codes "NoFunction"
kind_name kinds.Arguments = codes "Arguments"
kind_name kinds.Redeclared = codes "Redeclared"
kind_name kinds.TooDeep = codes "TooDeep"
kind_name kinds.NoFile = codes "NoFile"
kind_name kinds.Scalar = codes "Scalar"
kind_name kinds.OutputFull = codes "OutputFull"
kind_name kinds.NoConstant = codes "NoConstant"

-- the line on a fatal fault: its name, the file, and the line there
abbrev pub fatal_line : List ℕ → List ℕ → ℕ → List ℕ
fatal_line kind name line =
    codes "fatal " ++ kind ++ codes " in " ++ name ++ codes " on line " ++ decimal line
    ++ codes "\n"

-- the line on a script whose line of this number is none
abbrev pub script_line : ℕ → List ℕ
script_line line = codes "bad script line " ++ decimal line ++ codes "\n"

-- what was found, or that nothing was
abbrev pub found_text : Option (List ℕ) → List ℕ
found_text None = codes "nothing"
found_text (Some found) = found

-- the line on an expectation that differs: its line, what was wanted and what was found, as bytes
abbrev pub differs_line : ℕ → List ℕ → Option (List ℕ) → List ℕ
differs_line line wanted found =
    codes "differs line " ++ decimal line ++ codes " wanted " ++ wanted ++ codes " found "
    ++ found_text found ++ codes "\n"

-- the line on the error output; none where what differs was printed
abbrev pub line_of : Failure → List ℕ → List ℕ
line_of TooLong name = bad_source name (codes "TooLong") file_limit
line_of (Source reason number) name = bad_source name (reason_name reason) number
line_of ShelfFailed name = codes "shelf failed " ++ name ++ codes "\n"
line_of NoFile name = codes "no file " ++ name ++ codes "\n"
line_of (Fatal kind line) name = fatal_line (kind_name kind) name line
line_of (Bound steps) name = codes "bound reached after " ++ decimal steps ++ codes " steps\n"
line_of Output name = codes "output failed\n"
line_of (Script line) name = script_line line
line_of (Differs line wanted found) name = differs_line line wanted found
line_of PeerEnd name = codes "peer ended\n"
line_of (Packet offset) name = codes "bad packet offset " ++ decimal offset ++ codes "\n"
line_of Network name = codes "network failed\n"
line_of Stopped name = codes "stopped by the IDE\n"
line_of (Lies line) name = []
line_of Memory name = codes "out of memory\n"

-- the line was put, or the put failed and a front of it stands there
abbrev pub Says : Change → List ℕ → Type 0
Says err line =
    Appends err.told_before err.told line
    ⊎ (Rose err.faults_before err.faults × AppendsFront err.told_before err.told line)
