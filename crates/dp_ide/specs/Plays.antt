-- What playing a script comes to: how far it was played over the packets read, and why it ended.
use Rattle.std.specs.Prelude.{◌≡◌, ◌≢◌, ◌⊎◌, ℕ, ◌<◌, ◌≤◌, Bool, true, false, not, List, [], ◌∷◌, ◌++◌, length, Option, Some, Result, Ok, Err, ⊤}
use Rattle.std.specs.List.{list_all}
use Rattle.std.specs.Io.KnownBytes.{Appends, Consumes, IsAtEnd}
use Rattle.dp_outside.specs.Causes.{Rose}
use Rattle.dp_outside.specs.Changes.{Change}
use Rattle.dp_outside.specs.Streams.{AppendsFront}
use Rattle.dp_wire.specs.Frames.{packets_in, rest_of_packets, IsPartialPacket}
use Rattle.dp_ide.specs.declared.errors.IdeError.{IdeError}
use Rattle.dp_ide.specs.declared.errors.IdeError.TheVariants.{Differs, PeerEnd, BadPacket, ReadFault, WriteFault, OutFault, Memory}
use Rattle.dp_ide.specs.declared.heard.Message.{Message}
use Rattle.dp_ide.specs.declared.instruction.Act.TheVariants.{Send, Print}
use Rattle.dp_ide.specs.declared.instruction.Instruction.{Instruction}
use Rattle.dp_ide.specs.Messages.{IsMessage, AreMessages, is_init, answers}
use Rattle.dp_wire.specs.Places.{place_behind, IsRefusedAt}
use Rattle.dp_ide.specs.Instructions.{Heard, expected, afterwards, Played, sent}

-- ---- how far it was played

-- Of the script these instructions were played, over the first of the packets read; the others come
-- behind them.
pub record Progress (script : List Instruction) (read : List ℕ) : Type 0 where
  pub done : List Instruction
  pub left : List Instruction
  pub split : script ≡ done ++ left
  pub texts : List (List ℕ)
  pub others : List (List ℕ)
  pub came : packets_in read ≡ texts ++ others
  pub messages : List Message
  pub are : AreMessages texts messages
  pub heard : Heard
  pub played : Played done messages heard

-- the most bytes that are read at once
abbrev pub piece_limit : ℕ
piece_limit = 65536

-- What was read ends with at most one piece, before which not all of these packets had come.
pub record IsReadUpTo (texts : List (List ℕ)) (read : List ℕ) : Type 0 where
  pub front : List ℕ
  pub piece : List ℕ
  pub whole : read ≡ front ++ piece
  pub short : length piece ≤ piece_limit
  pub fewer : length (packets_in front) < length texts

-- this instruction is the next
pub record Comes {script : List Instruction} {read : List ℕ} (p : Progress script read)
    (one : Instruction) : Type 0 where
  pub more : List Instruction
  pub is : p.left ≡ one ∷ more

-- ---- what is awaited

-- the init, or the response to the command with this id
pub data Awaited : Type 0 where
  init : Awaited
  response : (id : List ℕ) → Awaited

-- The player awaits a packet: it has passed over these, and the others came behind them. The
-- commands of the instructions that it reached are sent, and this was printed.
pub record Waiting : Type 0 where
  pub awaited : Awaited
  pub passed : List (List ℕ)
  pub others : List (List ℕ)
  pub reached : List Instruction
  pub printed : List ℕ

-- at first it awaits the init
pub record AwaitsInit (read : List ℕ) (w : Waiting) : Type 0 where
  pub none_passed : w.passed ≡ []
  pub came : packets_in read ≡ w.others
  pub none_reached : w.reached ≡ []
  pub nothing : w.printed ≡ []

-- behind a `send` the response to it; of the packets since then none is this
pub record AwaitsResponse (id : List ℕ) (script : List Instruction) (read : List ℕ) (w : Waiting)
    : Type 0 where
  pub progress : Progress script read
  pub one : Instruction
  pub line : List ℕ
  pub sends : one.act ≡ Send line id
  pub comes : Comes progress one
  pub since : List (List ℕ)
  pub passed : w.passed ≡ progress.texts ++ since
  pub came : progress.others ≡ since ++ w.others
  pub messages : List Message
  pub are : AreMessages since messages
  pub none : list_all (λ message. not (answers id message.packet)) messages ≡ true
  pub reached : w.reached ≡ progress.done ++ one ∷ []
  pub printed : w.printed ≡ progress.heard.printed

abbrev pub Awaits : Awaited → List Instruction → List ℕ → Waiting → Type 0
Awaits init script read w = AwaitsInit read w
Awaits (response id) script read w = AwaitsResponse id script read w

-- the text cannot stand where this is awaited: as the first packet it is no init, later no packet
abbrev pub IsUnfit : Awaited → List ℕ → Type 0
IsUnfit init text = (message : Message) → IsMessage text message → is_init message.packet ≡ false
IsUnfit (response id) text = (message : Message) → IsMessage text message → ⊥

-- ---- why it ended

-- the commands of these instructions are sent, and this is printed
pub record Gives (reached : List Instruction) (printed : List ℕ) (sink out : Change) : Type 0 where
  pub sends : Appends sink.told_before sink.told (sent reached)
  pub prints : Appends out.told_before out.told printed

-- the next instruction expects this, and it is not found
pub record IsDifferent {script : List Instruction} {read : List ℕ} (p : Progress script read)
    (line : ℕ) (wanted : List ℕ) (found : Option (List ℕ)) : Type 0 where
  pub one : Instruction
  pub comes : Comes p one
  pub at : line ≡ one.line
  pub expects : expected one.act p.heard ≡ Some (record { wanted = wanted; found = found })
  pub differs : found ≢ Some wanted

-- the next instruction is a `send` whose command was not taken whole
pub record IsUnsent {script : List Instruction} {read : List ℕ} (p : Progress script read)
    (sink out : Change) : Type 0 where
  pub one : Instruction
  pub comes : Comes p one
  pub line : List ℕ
  pub id : List ℕ
  pub is : one.act ≡ Send line id
  pub fault : Rose sink.faults_before sink.faults
  pub sends : AppendsFront sink.told_before sink.told (sent (p.done ++ one ∷ []))
  pub prints : Appends out.told_before out.told p.heard.printed

-- the next instruction is a `print` whose line was not taken whole
pub record IsUnprinted {script : List Instruction} {read : List ℕ} (p : Progress script read)
    (sink out : Change) : Type 0 where
  pub one : Instruction
  pub comes : Comes p one
  pub is : one.act ≡ Print
  pub fault : Rose out.faults_before out.faults
  pub sends : Appends sink.told_before sink.told (sent p.done)
  pub prints : AppendsFront out.told_before out.told (afterwards Print p.heard).printed

-- it ended at an instruction, or behind the last one
abbrev pub StopsAt : {script : List Instruction} {read : List ℕ} → Result (Unit {0}) IdeError
    → Progress script read → Change → Change → Type 0
StopsAt (Ok u) p sink out = (p.left ≡ []) × Gives p.done p.heard.printed sink out
StopsAt (Err (Differs line wanted found)) p sink out =
    IsDifferent p line wanted found × Gives p.done p.heard.printed sink out
StopsAt (Err WriteFault) p sink out = IsUnsent p sink out
StopsAt (Err OutFault) p sink out = IsUnprinted p sink out
StopsAt (Err Memory) p sink out = Gives p.done p.heard.printed sink out
StopsAt other p sink out = ⊥

-- Where a packet was awaited: the next text cannot stand there, and its frame begins here; or no
-- packet is left, none begins the rest, and the place of this is here.
abbrev pub IsBadAt : ℕ → Awaited → List (List ℕ) → List (List ℕ) → List ℕ → Type 0
IsBadAt offset awaited passed (next ∷ others) rest =
    IsUnfit awaited next × (offset ≡ place_behind passed)
IsBadAt offset awaited passed [] rest =
    IsRefusedAt (record { held = rest; dropped = place_behind passed }) offset

-- it ended while a packet was awaited: by the rest of the bytes read, and by the source
abbrev pub Lacks : Result (Unit {0}) IdeError → Waiting → List ℕ → Change → Type 0
Lacks (Err PeerEnd) w rest source = (w.others ≡ []) × IsPartialPacket rest × IsAtEnd source.told
Lacks (Err (BadPacket offset)) w rest source = IsBadAt offset w.awaited w.passed w.others rest
Lacks (Err ReadFault) w rest source =
    (w.others ≡ []) × IsPartialPacket rest × Rose source.faults_before source.faults
Lacks (Err Memory) w rest source = ⊤
Lacks other w rest source = ⊥

pub record EndsPlaying (end : Result (Unit {0}) IdeError) (script : List Instruction)
    (read : List ℕ) (sink out : Change) : Type 0 where
  pub progress : Progress script read
  pub up_to : IsReadUpTo progress.texts read
  pub stops : StopsAt end progress sink out

pub record EndsWaiting (end : Result (Unit {0}) IdeError) (script : List Instruction)
    (read : List ℕ) (source sink out : Change) : Type 0 where
  pub waiting : Waiting
  pub awaits : Awaits waiting.awaited script read waiting
  pub lacks : Lacks end waiting (rest_of_packets read) source
  pub gives : Gives waiting.reached waiting.printed sink out

-- Every end has its cause in what was read: the player stood at an instruction, or awaited a
-- packet.
pub record Ends (script : List Instruction) (end : Result (Unit {0}) IdeError)
    (source sink out : Change) : Type 0 where
  pub read : List ℕ
  pub consumed : Consumes source.told_before source.told read
  pub how : EndsPlaying end script read sink out ⊎ EndsWaiting end script read source sink out

-- what was read decides: no fault, and no lack of memory
abbrev pub is_verdict : Result (Unit {0}) IdeError → Bool
is_verdict (Ok u) = true
is_verdict (Err (Differs line wanted found)) = true
is_verdict (Err PeerEnd) = true
is_verdict (Err (BadPacket offset)) = true
is_verdict other = false
