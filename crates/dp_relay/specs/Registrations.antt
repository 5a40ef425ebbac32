-- What becomes of an IDE that asks over a live link: what was read of the link, what the registry
-- was asked, and what was put on it.
use Rattle.std.specs.Prelude.{◌≡◌, ◌⊎◌, ℕ, List, take, Option, Some, None, Result, Ok, Err}
use Rattle.dp_packet.specs.declared.packet.Packet.TheVariants as packet
use Rattle.dp_packet.specs.declared.packet.ProxyReply.{ProxyReply}
use Rattle.dp_packet.specs.Text.{text}
use Rattle.dp_registry.specs.declared.entry.Entry.{Entry}
use Rattle.dp_registry.specs.Verdicts.{reply_of}
use Rattle.dp_desk.specs.Desks.{Known, Entered}
use Rattle.dp_desk.specs.Made.{made, plus}
use Rattle.dp_wire.specs.Frames.{up_to_nul, packet_frame}
use Rattle.dp_proxy.specs.declared.calls.Call.{Call}
use Rattle.dp_proxy.specs.Calls.{call_of}
use Rattle.dp_proxy.specs.Replies.{reply, verdict_on, entry_of}
use Rattle.dp_relay.specs.declared.errors.RelayError.{RelayError}
use Rattle.dp_relay.specs.declared.errors.RelayError.TheVariants.{ReadFault, WriteFault, TooLong, Memory}
use Rattle.dp_relay.specs.Ends.{Ends, Gave, Took, SourceHeld, SinkHeld, SourceFailed, SinkFailed}
use Rattle.dp_relay.specs.Asked.{IsAsked, IsTooLong, IsUnfinished}

-- ---- what the registry was asked

-- The call that a command names, at the journal that it found: its entry stands behind that, as far
-- as it makes one. A command that names none leaves all as it was.
abbrev pub Noted : Known → List Entry → List ℕ → Option Call → Known → Type 0
Noted v at host None w = (at ≡ v.seen) × (w ≡ v)
Noted v at host (Some call) w =
    Entered v at (entry_of host call) (reply_of (verdict_on at host call)) w

-- a call of which nothing stands in the journal
abbrev pub Unnoted : Known → List Entry → List ℕ → Option Call → Known → Type 0
Unnoted v at host None w = w ≡ v
Unnoted v at host (Some call) w = Entered v at (entry_of host call) None w

-- the command of a host was answered, by the journal that was found there
pub record Answered (v w : Known) (host command : List ℕ) (answer : ProxyReply) : Type 0 where
  pub at : List Entry
  pub replied : answer ≡ reply at host command
  pub noted : Noted v at host (call_of command) w

-- memory ran out before the call was made, or in it, or behind it
abbrev pub Unanswered : Known → Known → List ℕ → List ℕ → Type 0
Unanswered v w host command = (w ≡ v)
    ⊎ ((at : List Entry)
    × (Unnoted v at host (call_of command) w ⊎ Noted v at host (call_of command) w))

-- ---- how it ends

-- the frame of a reply
abbrev pub frame_of : ProxyReply → List ℕ
frame_of answer = packet_frame (text (packet.Proxy answer))

-- nothing was put on the link
pub record IsSilent (x y : Ends) : Type 0 where
  pub taken : y.taken ≡ x.taken
  pub held : SinkHeld x y

-- what was asked and put for a command, where this is the answer
abbrev pub Replied : Known → Known → List ℕ → List ℕ → Ends → Ends → Result ProxyReply RelayError
    → Type 0
Replied v w host command x y (Ok answer) =
    Answered v w host command answer × Took x y (frame_of answer) × SinkHeld x y
Replied v w host command x y (Err WriteFault) =
    ((answer : ProxyReply) × (front : ℕ) × Answered v w host command answer
    × Took x y (take front (frame_of answer)))
    × SinkFailed x y
Replied v w host command x y (Err Memory) = Unanswered v w host command × IsSilent x y
Replied v w host command x y (Err TooLong) = ⊥
Replied v w host command x y (Err ReadFault) = ⊥

-- what followed from what was read
abbrev pub Came : Known → Known → List ℕ → Ends → Ends → List ℕ → Result ProxyReply RelayError
    → Type 0
Came v w host x y read (Err TooLong) =
    IsTooLong read × SourceHeld x y × (w ≡ v) × IsSilent x y
Came v w host x y read (Err ReadFault) =
    IsUnfinished read × SourceFailed x y × (w ≡ v) × IsSilent x y
Came v w host x y read (Err WriteFault) =
    IsAsked read y.left × SourceHeld x y × Replied v w host (up_to_nul read) x y (Err WriteFault)
Came v w host x y read (Err Memory) =
    IsAsked read y.left × SourceHeld x y × Replied v w host (up_to_nul read) x y (Err Memory)
Came v w host x y read (Ok answer) =
    IsAsked read y.left × SourceHeld x y × Replied v w host (up_to_nul read) x y (Ok answer)

-- one registration: the clerk and the link of the IDE before it and after it
pub record Registered (v w : Known) (host : List ℕ) (x y : Ends)
    (result : Result ProxyReply RelayError) : Type 0 where
  pub read : List ℕ
  pub gave : Gave x y read
  pub came : Came v w host x y read result

-- however it ends, the clerk holds the sessions that it held and has its share, and made one entry
-- of a registration or a stop at most
pub record MadeOne (v w : Known) : Type 0 where
  pub desk : w.desk ≡ v.desk
  pub held : w.held ≡ v.held
  pub share : w.share ≡ v.share
  pub made : (w.made ≡ v.made) ⊎ (w.made ≡ plus v.made (made 1 0 0))
