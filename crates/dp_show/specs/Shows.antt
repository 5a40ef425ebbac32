-- What `show` comes to: which packets of those read are shown, and why it ended.
use Rattle.std.specs.Prelude.{◌≡◌, ◌≢◌, ℕ, List, [], ◌∷◌, ◌++◌, Result, Ok, Err}
use Rattle.std.specs.Io.KnownBytes.{Appends, Consumes, IsAtEnd}
use Rattle.dp_markup.specs.declared.tree.Element.{Element}
use Rattle.dp_outside.specs.Causes.{Rose}
use Rattle.dp_outside.specs.Changes.{Change}
use Rattle.dp_outside.specs.Streams.{AppendsFront}
use Rattle.dp_wire.specs.Frames.{packets_in, rest_of_packets, IsPartialPacket}
use Rattle.dp_wire.specs.Places.{place_behind, IsRefusedAt}
use Rattle.dp_show.specs.declared.errors.ShowError.{ShowError}
use Rattle.dp_show.specs.declared.errors.ShowError.TheVariants.{PeerEnd, BadPacket, ReadFault, OutFault, Memory}
use Rattle.dp_show.specs.Lines.{lines_of, AreMarkup, IsNoMarkup}

-- Of the bytes read from the input, the first packets are the markup of these elements.
pub record Shown (input : Change) : Type 0 where
  pub read : List ℕ
  pub consumed : Consumes input.told_before input.told read
  pub texts : List (List ℕ)
  pub others : List (List ℕ)
  pub split : packets_in read ≡ texts ++ others
  pub elements : List Element
  pub markup : AreMarkup texts elements

-- ---- where no packet stands

-- Behind these packets no packet is shown: the next one's text is no markup, and its frame begins
-- here; or no packet is left, none begins the rest, and the place of this is here.
abbrev pub IsBadAt : ℕ → List (List ℕ) → List (List ℕ) → List ℕ → Type 0
IsBadAt offset texts (next ∷ others) rest = IsNoMarkup next × (offset ≡ place_behind texts)
IsBadAt offset texts [] rest =
    IsRefusedAt (record { held = rest; dropped = place_behind texts }) offset

-- ---- why it ended

-- the packets shown and the others, the rest of the bytes read, and what became of the input
abbrev pub EndsBy : Result (Unit {0}) ShowError → List (List ℕ) → List (List ℕ) → List ℕ → Change
    → Type 0
EndsBy (Ok u) texts others rest input = (others ≡ []) × (rest ≡ []) × IsAtEnd input.told
EndsBy (Err PeerEnd) texts others rest input =
    (others ≡ []) × (rest ≢ []) × IsPartialPacket rest × IsAtEnd input.told
EndsBy (Err (BadPacket offset)) texts others rest input = IsBadAt offset texts others rest
EndsBy (Err ReadFault) texts others rest input =
    (others ≡ []) × IsPartialPacket rest × Rose input.faults_before input.faults
EndsBy (Err OutFault) texts others rest input = ⊥
EndsBy (Err Memory) texts others rest input = ⊥

-- Written is a line for each packet before the first whose text is no markup.
pub record Shows (end : Result (Unit {0}) ShowError) (input out : Change) : Type 0 where
  pub shown : Shown input
  pub written : Appends out.told_before out.told (lines_of shown.elements)
  pub ends : EndsBy end shown.texts shown.others (rest_of_packets shown.read) input

-- written is a front of the lines of packets that were read
pub record IsCutShort (input out : Change) : Type 0 where
  pub shown : Shown input
  pub written : AppendsFront out.told_before out.told (lines_of shown.elements)

-- every end has its cause
abbrev pub Ends : Result (Unit {0}) ShowError → Change → Change → Type 0
Ends (Err OutFault) input out = Rose out.faults_before out.faults × IsCutShort input out
Ends (Err Memory) input out = IsCutShort input out
Ends end input out = Shows end input out
