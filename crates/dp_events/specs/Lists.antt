-- Lists of events, one in a line: who connects, what is sent and read, and who closes.
use Rattle.std.specs.Prelude.{◌≡◌, ◌⊎◌, ℕ, ◌+◌, ◌/◌, ◌%◌, ◌<◌, ◌≤◌, ◌==◌, ◌^◌, nat_lt, Bool, true, false}
use Rattle.std.specs.Prelude.{◌&&◌, if◌then◌else◌, List, [], ◌∷◌, ◌++◌, flat_map, codes}
use Rattle.std.specs.Fmt.{decimal}
use Rattle.std.specs.List.{list_any, AllByRecursion}
use Rattle.dp_grammar.specs.Lines as lines
use Rattle.dp_grammar.specs.Lines.{LineRule, Say, is_idle, lines_of}
use Rattle.dp_outside.specs.Names.{IsHost, IsKey}
use Rattle.dp_events.specs.declared.event.Act.{Act}
use Rattle.dp_events.specs.declared.event.Act.TheVariants.{Ide, Engine, Give, Move, Close}
use Rattle.dp_events.specs.declared.event.Event.{Event}

-- ---- bytes in a line

-- two lower-case hexadecimal digits for each byte; `-` where there is none
abbrev pub digit : ℕ → ℕ
digit n = if nat_lt n 10 then 48 + n else 87 + n

abbrev pub hex : List ℕ → List ℕ
hex [] = codes "-"
hex (byte ∷ bytes) = flat_map (λ b. digit (b / 16) ∷ digit (b % 16) ∷ []) (byte ∷ bytes)

-- ---- one event

abbrev pub named : List ℕ → ℕ → List ℕ
named word link = word ++ codes " " ++ decimal link

abbrev pub named_with : List ℕ → ℕ → List ℕ → List ℕ
named_with word link part = named word link ++ codes " " ++ part

-- the IDE sends bytes, spelled in hexadecimal
pub record Gives (line : List ℕ) (link : ℕ) (bytes : List ℕ) : Type 0 where
  pub spelled : line ≡ named_with (codes "give") link (hex bytes)
  pub are_bytes : AllByRecursion (λ b. b < 256) bytes

-- the IDE sends a text and a NUL; an empty text may go without the space before it
pub record Says (line : List ℕ) (link : ℕ) (bytes : List ℕ) : Type 0 where
  pub said : List ℕ
  pub whole : bytes ≡ said ++ 0 ∷ []
  pub spelled : (line ≡ named_with (codes "say") link said)
      ⊎ ((said ≡ []) × (line ≡ named (codes "say") link))

-- the line that an event is, by what happens on its link
abbrev pub Spells : List ℕ → ℕ → Act → Type 0
Spells line link (Ide host) = line ≡ named_with (codes "ide") link host
Spells line link (Engine key) = line ≡ named_with (codes "engine") link key
Spells line link (Give bytes) = Gives line link bytes ⊎ Says line link bytes
Spells line link (Move count) = line ≡ named_with (codes "move") link (decimal count)
Spells line link Close = line ≡ named (codes "close") link

abbrev pub IsFormed : Act → Type 0
IsFormed (Ide host) = IsHost host
IsFormed (Engine key) = IsKey key
IsFormed (Give bytes) = Unit {0}
IsFormed (Move count) = count < 2 ^ 32
IsFormed Close = Unit {0}

-- ---- one event after others

abbrev pub is_engine : Act → Bool
is_engine (Engine key) = true
is_engine act = false

-- a link is made by the IDE or the engine that connects
abbrev pub makes : Act → Bool
makes (Ide host) = true
makes (Engine key) = true
makes act = false

-- an event of this sort was on the link
abbrev pub was : (Act → Bool) → ℕ → List Event → Bool
was sort link events = list_any (λ e. (e.link == link) && sort e.act) events

-- a link is made once, and before its use; only of an engine bytes are read
abbrev pub MayFollow : List Event → ℕ → Act → Type 0
MayFollow before link (Ide host) = was makes link before ≡ false
MayFollow before link (Engine key) = was makes link before ≡ false
MayFollow before link (Give bytes) = was makes link before ≡ true
MayFollow before link (Move count) = was is_engine link before ≡ true
MayFollow before link Close = was makes link before ≡ true

-- the greatest number of a link
abbrev pub link_limit : ℕ
link_limit = 4294967294

pub record Fits (before : List Event) (event : Event) : Type 0 where
  pub some : 1 ≤ event.link
  pub known : event.link ≤ link_limit
  pub formed : IsFormed event.act
  pub follows : MayFollow before event.link event.act

-- each event fits those before it
abbrev pub AllFit : List Event → List Event → Type 0
AllFit before [] = Unit {0}
AllFit before (e ∷ es) = Fits before e × AllFit (before ++ e ∷ []) es

-- ---- lists

-- what a line adds to the events before it
abbrev pub Adds : List Event → List ℕ → List Event → Type 0
Adds before line added =
    ((is_idle line ≡ true) × (added ≡ []))
    ⊎ ((e : Event) × Spells line e.link e.act × Fits before e × (added ≡ e ∷ []))

-- the same of a line of any number
abbrev pub AddsAt : LineRule Event
AddsAt before number line added = Adds before line added

-- the bytes are this list of events
abbrev pub IsList : List ℕ → List Event → Type 0
IsList bytes events = Say AddsAt (lines_of bytes) events

-- the line of this number, counted from 1, is the first with which no list begins
abbrev pub IsFirstBad : List ℕ → ℕ → Type 0
IsFirstBad bytes number = lines.IsFirstBad AddsAt bytes number
