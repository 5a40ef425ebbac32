-- How far `show` has come.
use Rattle.std.specs.Prelude.{◌≡◌, ◌⊎◌, ℕ, List, ◌++◌, flat_map, Option, Some, None}
use Rattle.std.specs.List.{AllByRecursion}
use Rattle.std.specs.Io.KnownBytes.{Appends, Consumes, Keeps}
use Rattle.dp_markup.specs.declared.tree.Element.{Element}
use Rattle.dp_markup.specs.Grammar.{IsMarkup}
use Rattle.dp_outside.specs.Causes.{Rose}
use Rattle.dp_outside.specs.Changes.{Change}
use Rattle.dp_outside.specs.Streams.{AppendsFront}
use Rattle.dp_wire.specs.Frames.{IsPacketText, packet_frame, BeginsPacket}
use Rattle.dp_wire.specs.Received.{Received}
use Rattle.dp_show.specs.declared.errors.ShowError.{ShowError}
use Rattle.dp_show.specs.declared.errors.ShowError.TheVariants.{PeerEnd, BadPacket, ReadFault, OutFault, Memory}
use Rattle.dp_show.specs.Lines.{line_of, lines_of, AreMarkup, IsNoMarkup}
use Rattle.dp_wire.specs.Places.{place_behind, IsRefusedAt}

-- what an output has reported
abbrev pub Output : Type 0
Output = Option (List ℕ)

-- a packet's line is written
pub record IsLine (text line : List ℕ) : Type 0 where
  pub element : Element
  pub markup : IsMarkup text element
  pub same : line ≡ line_of element

-- the line of a text, or that it has none
abbrev pub LineOf : List ℕ → Option (List ℕ) → Type 0
LineOf text None = IsNoMarkup text
LineOf text (Some line) = IsLine text line

-- the packets that were read are shown, and what follows them is held
pub record HasShown (read : List ℕ) (packets : Received) (before now : Output) : Type 0 where
  pub texts : List (List ℕ)
  pub each : AllByRecursion IsPacketText texts
  pub whole : read ≡ flat_map packet_frame texts ++ packets.held
  pub place : packets.dropped ≡ place_behind texts
  pub elements : List Element
  pub markup : AreMarkup texts elements
  pub written : Appends before now (lines_of elements)

-- so far packets were read and the first of them were shown, the last one maybe in part
pub record WasShowing (read : List ℕ) (before now : Output) : Type 0 where
  pub texts : List (List ℕ)
  pub rest : List ℕ
  pub each : AllByRecursion IsPacketText texts
  pub whole : read ≡ flat_map packet_frame texts ++ rest
  pub elements : List Element
  pub markup : AreMarkup texts elements
  pub written : AppendsFront before now (lines_of elements)

-- whatever was shown before, these packets were shown after it
abbrev pub ShowsOn : Received → Received → Output → Output → Type 0
ShowsOn held left old new =
    (read : List ℕ) (before : Output) → HasShown read held before old
    → HasShown read left before new

-- whatever was shown before, it was cut short after it
abbrev pub IsCut : Received → Output → Output → Type 0
IsCut held old new =
    (read : List ℕ) (before : Output) → HasShown read held before old → WasShowing read before new

-- why a text was not shown, whose frame begins at this place
abbrev pub TextFails : ShowError → List ℕ → ℕ → Change → Type 0
TextFails (BadPacket offset) text start out =
    IsNoMarkup text × (offset ≡ start) × (out.told ≡ out.told_before)
TextFails OutFault text start out =
    Rose out.faults_before out.faults
    × ((line : List ℕ) × IsLine text line × AppendsFront out.told_before out.told line)
TextFails Memory text start out = out.told ≡ out.told_before
TextFails PeerEnd text start out = ⊥
TextFails ReadFault text start out = ⊥

-- the packet in front has a text that is no markup, or there is none
pub record HasNoMarkup (packets : Received) (offset : ℕ) : Type 0 where
  pub text : List ℕ
  pub rest : List ℕ
  pub begins : BeginsPacket packets.held text rest
  pub none : IsNoMarkup text
  pub place : offset ≡ packets.dropped

-- why not all whole packets that were held are shown
abbrev pub HeldFails : ShowError → Received → Received → Change → Type 0
HeldFails (BadPacket offset) held left out =
    ShowsOn held left out.told_before out.told × (HasNoMarkup left offset ⊎ IsRefusedAt left offset)
HeldFails OutFault held left out =
    Rose out.faults_before out.faults × IsCut held out.told_before out.told
HeldFails Memory held left out = IsCut held out.told_before out.told
HeldFails PeerEnd held left out = ⊥
HeldFails ReadFault held left out = ⊥

-- why no piece follows what is held
abbrev pub PieceFails : ShowError → Change → Type 0
PieceFails ReadFault input =
    Rose input.faults_before input.faults × Keeps input.told_before input.told
PieceFails Memory input = (piece : List ℕ) × Consumes input.told_before input.told piece
PieceFails PeerEnd input = ⊥
PieceFails (BadPacket offset) input = ⊥
PieceFails OutFault input = ⊥
