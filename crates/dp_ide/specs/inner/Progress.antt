-- How far the player has come over the packets that were read.
use Rattle.std.specs.Prelude.{◌≡◌, ◌≢◌, ◌⊎◌, ℕ, ◌+◌, ◌<◌, ◌≤◌, Bool, not, true, false, drop, slice_range, if◌then◌else◌, List, [], ◌∷◌, ◌++◌, length, Option, Some, Result, ⊤, codes, flat_map}
use Rattle.std.specs.List.{list_all, AllByRecursion}
use Rattle.std.specs.Io.KnownBytes.{Appends, Consumes, Keeps, IsAtEnd}
use Rattle.dp_markup.specs.Texts.{written}
use Rattle.dp_outside.specs.Causes.{Rose}
use Rattle.dp_outside.specs.Changes.{Change}
use Rattle.dp_outside.specs.Streams.{AppendsFront}
use Rattle.dp_wire.specs.Frames.{BeginsPacket, IsCommand, IsPacketText, IsPartialPacket, command_frame, packet_frame}
use Rattle.dp_wire.specs.Places.{place_behind, IsRefusedAt}
use Rattle.dp_wire.specs.Received.{Received}
use Rattle.dp_ide.specs.declared.errors.IdeError.{IdeError}
use Rattle.dp_ide.specs.declared.errors.IdeError.TheVariants.{Differs, PeerEnd, BadPacket, ReadFault, WriteFault, OutFault, Memory}
use Rattle.dp_ide.specs.declared.instruction.Act.TheVariants.{Send, Print}
use Rattle.dp_ide.specs.declared.instruction.Instruction.{Instruction}
use Rattle.dp_ide.specs.declared.heard.Heard.{Heard as Kept}
use Rattle.dp_ide.specs.declared.heard.Message.{Message}
use Rattle.dp_ide.specs.Messages.{IsMessage, AreMessages, answers, is_init, output_in}
use Rattle.dp_ide.specs.Instructions.{Heard, Expectation, Answered, Played, expected, sent}
use Rattle.dp_ide.specs.Plays.{Ends, IsReadUpTo}

-- what the code keeps, with what was printed before
abbrev pub heard_of : Kept → List ℕ → Heard
heard_of kept printed =
    record { last = kept.last; output = kept.output.items; printed = printed }

-- ---- packets

-- Behind what was held came this piece; these packets at its front were taken, and this is held
-- now.
pub record Takes (old new : Received) (piece : List ℕ) (texts : List (List ℕ)) : Type 0 where
  pub whole : old.held ++ piece ≡ flat_map packet_frame texts ++ new.held
  pub each : AllByRecursion IsPacketText texts
  pub place : (before : List (List ℕ)) → old.dropped ≡ place_behind before
      → new.dropped ≡ place_behind (before ++ texts)

-- nothing came behind what was held, or no more than these packets wanted
abbrev pub ComesFor : List ℕ → List ℕ → List (List ℕ) → Type 0
ComesFor held piece texts = (piece ≡ []) ⊎ IsReadUpTo texts (held ++ piece)

-- the same of one packet, whichever it is
abbrev pub ComesForOne : List ℕ → List ℕ → Type 0
ComesForOne held piece = (text : List ℕ) → ComesFor held piece (text ∷ [])

-- why no piece follows what is held
abbrev pub PieceFails : IdeError → Change → Type 0
PieceFails ReadFault source =
    Rose source.faults_before source.faults × Keeps source.told_before source.told
PieceFails Memory source = (piece : List ℕ) × Consumes source.told_before source.told piece
PieceFails other source = ⊥

-- behind what was held this piece came
pub record HoldsMore (old new : Received) (piece : List ℕ) : Type 0 where
  pub held : new.held ≡ old.held ++ piece
  pub dropped : new.dropped ≡ old.dropped

-- behind what was held came this piece, and the text of the first packet held stands from here to
-- there
pub record HoldsNext (old new : Received) (start end : ℕ) (source : Change)
    : Type 0 where
  pub piece : List ℕ
  pub consumed : Consumes source.told_before source.told piece
  pub wanted : ComesForOne old.held piece
  pub more : HoldsMore old new piece
  pub within : (start ≤ end) × (end < length new.held)
  pub begins : BeginsPacket new.held (slice_range new.held start end)
      (drop (end + 1) new.held)

-- the next packet was taken, and is this message
pub record TakesNext (old new : Received) (source : Change) (message : Message) : Type 0 where
  pub piece : List ℕ
  pub consumed : Consumes source.told_before source.told piece
  pub text : List ℕ
  pub wanted : ComesFor old.held piece (text ∷ [])
  pub takes : Takes old new piece (text ∷ [])
  pub is : IsMessage text message

-- why there is no next packet, behind what is held then
abbrev pub LacksNext : IdeError → Received → Change → Type 0
LacksNext PeerEnd now source = IsPartialPacket now.held × IsAtEnd source.told
LacksNext ReadFault now source =
    IsPartialPacket now.held × Rose source.faults_before source.faults
LacksNext (BadPacket offset) now source =
    ((text : List ℕ) × (rest : List ℕ) × BeginsPacket now.held text rest
    × ((message : Message) → IsMessage text message → ⊥) × (offset ≡ now.dropped))
    ⊎ IsRefusedAt now offset
LacksNext Memory now source = ⊤
LacksNext other now source = ⊥

-- the next packet did not come
pub record NextFails (why : IdeError) (old : Received) (source : Change) : Type 0 where
  pub piece : List ℕ
  pub consumed : Consumes source.told_before source.told piece
  pub lacks : LacksNext why
      (record { held = old.held ++ piece; dropped = old.dropped }) source

-- ---- the answer to a command

-- what a message leaves: an answer is the last one, and the output of another is kept
pub record Hears (id : List ℕ) (message : Message) (before after : Kept) (found : Bool)
    : Type 0 where
  pub is : answers id message.packet ≡ found
  pub last : after.last ≡ (if found then message else before.last)
  pub output : after.output.items
      ≡ before.output.items ++ (if found then [] else output_in message.packet)

-- Behind what was held came this piece. These packets at its front were passed over, since none is
-- the answer; their output is kept.
pub record PassesOver (id : List ℕ) (old new : Received) (before after : Kept) (piece : List ℕ)
    : Type 0 where
  pub texts : List (List ℕ)
  pub wanted : ComesFor old.held piece texts
  pub takes : Takes old new piece texts
  pub messages : List Message
  pub are : AreMessages texts messages
  pub none : list_all (λ message. not (answers id message.packet)) messages ≡ true
  pub last : after.last ≡ before.last
  pub output : after.output.items
      ≡ before.output.items ++ flat_map (λ message. output_in message.packet) messages

-- the answer came, behind packets that were passed over
pub record TakesAnswer (id : List ℕ) (before after : Kept) (old new : Received) (source : Change)
    : Type 0 where
  pub piece : List ℕ
  pub consumed : Consumes source.told_before source.told piece
  pub texts : List (List ℕ)
  pub wanted : ComesFor old.held piece texts
  pub takes : Takes old new piece texts
  pub messages : List Message
  pub are : AreMessages texts messages
  pub answered : (printed : List ℕ)
      → Answered id (heard_of before printed) messages (heard_of after printed)

-- it did not: these were passed over, and behind them the next packet did not come
pub record AnswerFails (id : List ℕ) (why : IdeError) (old : Received) (source : Change)
    : Type 0 where
  pub piece : List ℕ
  pub consumed : Consumes source.told_before source.told piece
  pub texts : List (List ℕ)
  pub now : Received
  pub takes : Takes old now piece texts
  pub messages : List Message
  pub are : AreMessages texts messages
  pub none : list_all (λ message. not (answers id message.packet)) messages ≡ true
  pub lacks : LacksNext why now source

-- ---- instructions

-- why an expectation is refused: it does not hold, or memory ran out for telling it
abbrev pub Refuses : IdeError → ℕ → Option Expectation → Type 0
Refuses (Differs line wanted found) number expectation =
    (line ≡ number) × (expectation ≡ Some (record { wanted = wanted; found = found }))
    × (found ≢ Some wanted)
Refuses Memory number expectation = ⊤
Refuses other number expectation = ⊥

-- why a command was not sent
abbrev pub SendFails : IdeError → List ℕ → Change → Type 0
SendFails WriteFault line sink =
    Rose sink.faults_before sink.faults
    × AppendsFront sink.told_before sink.told (command_frame line)
SendFails Memory line sink = sink.told ≡ sink.told_before
SendFails other line sink = ⊥

-- why a command was not sent, or no answer to it came
abbrev pub ExchangeFails : IdeError → List ℕ → List ℕ → Received → Change → Change → Type 0
ExchangeFails why line id old source sink =
    (SendFails why line sink × (source.told ≡ source.told_before))
    ⊎ (AnswerFails id why old source × Appends sink.told_before sink.told (command_frame line))

-- what a `print` writes
abbrev pub printed_line : Kept → List ℕ
printed_line kept = written kept.last.root ++ codes "\n"

abbrev pub PrintFails : IdeError → Kept → Change → Type 0
PrintFails OutFault kept out =
    Rose out.faults_before out.faults
    × AppendsFront out.told_before out.told (printed_line kept)
PrintFails Memory kept out = out.told ≡ out.told_before
PrintFails other kept out = ⊥

-- Of the bytes read these packets were taken, over which these instructions were played; this is
-- held and kept, and this was printed.
pub record Stood (read : List ℕ) (done : List Instruction) (held : Received) (kept : Kept)
    (printed : List ℕ) : Type 0 where
  pub texts : List (List ℕ)
  pub each : AllByRecursion IsPacketText texts
  pub whole : read ≡ flat_map packet_frame texts ++ held.held
  pub place : held.dropped ≡ place_behind texts
  pub messages : List Message
  pub are : AreMessages texts messages
  pub played : Played done messages (heard_of kept printed)

-- and nothing was read behind the piece in which the last of these packets came
pub record StoodUpTo (read : List ℕ) (done : List Instruction) (held : Received) (kept : Kept)
    (printed : List ℕ) : Type 0 where
  pub stood : Stood read done held kept printed
  pub up_to : IsReadUpTo stood.texts read

-- Wherever the player stood before, it has played these instructions after it, over the piece that
-- came; their commands were sent, and what they print was printed.
pub record Performs (ones : List Instruction) (old new : Received) (before after : Kept)
    (source sink out : Change) : Type 0 where
  pub piece : List ℕ
  pub consumed : Consumes source.told_before source.told piece
  pub said : List ℕ
  pub sends : Appends sink.told_before sink.told (sent ones)
  pub prints : Appends out.told_before out.told said
  pub performed : (read printed : List ℕ) (done : List Instruction)
      → StoodUpTo read done old before printed
      → StoodUpTo (read ++ piece) (done ++ ones) new after (printed ++ said)

-- what it sends is a command
abbrev pub IsPlayable : Instruction → Type 0
IsPlayable one = (line id : List ℕ) → one.act ≡ Send line id → IsCommand line

-- why an instruction was not played before it awaited a packet
abbrev pub StopsHere : IdeError → Instruction → Kept → Change → Change → Type 0
StopsHere (Differs line wanted found) one before sink out =
    Refuses (Differs line wanted found) one.line (expected one.act (heard_of before []))
    × (sink.told ≡ sink.told_before) × (out.told ≡ out.told_before)
StopsHere WriteFault one before sink out =
    (line : List ℕ) × (id : List ℕ) × (one.act ≡ Send line id) × SendFails WriteFault line sink
    × (out.told ≡ out.told_before)
StopsHere OutFault one before sink out =
    (one.act ≡ Print) × PrintFails OutFault before out × (sink.told ≡ sink.told_before)
StopsHere Memory one before sink out =
    (sink.told ≡ sink.told_before) × (out.told ≡ out.told_before)
StopsHere other one before sink out = ⊥

-- its command was sent, and the answer did not come
pub record WaitsHere (why : IdeError) (one : Instruction) (old : Received)
    (source sink out : Change) : Type 0 where
  pub line : List ℕ
  pub id : List ℕ
  pub is : one.act ≡ Send line id
  pub sends : Appends sink.told_before sink.told (command_frame line)
  pub kept : out.told ≡ out.told_before
  pub fails : AnswerFails id why old source

-- why an instruction was not played
abbrev pub PerformFails : IdeError → Instruction → Received → Kept → Change → Change → Change
    → Type 0
PerformFails why one old before source sink out =
    (StopsHere why one before sink out × (source.told ≡ source.told_before))
    ⊎ WaitsHere why one old source sink out

-- The player stood behind these bytes, where it has heard the init and has sent and printed
-- nothing; from there it comes to this end.
abbrev pub EndsFrom : List Instruction → Received → Kept → Result (Unit {0}) IdeError → Change
    → Change → Change → Type 0
EndsFrom script held kept end source sink out =
    (read : List ℕ) (told : Option (List ℕ)) (faults : ℕ) → StoodUpTo read [] held kept []
    → Consumes told source.told_before read → faults ≤ source.faults_before
    → Ends script end (record source { told_before = told; faults_before = faults }) sink out

-- why there is no init, where nothing was read before
pub record OpenFails (why : IdeError) (source : Change) : Type 0 where
  pub read : List ℕ
  pub consumed : Consumes source.told_before source.told read
  pub lacks : LacksNext why (record { held = read; dropped = 0 }) source
      ⊎ ((text : List ℕ) × (rest : List ℕ) × BeginsPacket read text rest × (why ≡ BadPacket 0)
      × ((message : Message) → IsMessage text message → is_init message.packet ≡ false))
