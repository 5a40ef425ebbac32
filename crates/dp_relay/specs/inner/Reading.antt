-- How far a command was read into a buffer.
use Rattle.std.specs.Prelude.{◌≡◌, ℕ, ◌≤◌, true, List, length, take, None, Result, Ok, Err}
use Rattle.dp_outside.specs.declared.sources.Source as source_of
use Rattle.dp_wire.specs.Frames.{has_no_nul, up_to_nul}
use Rattle.dp_relay.specs.declared.errors.RelayError.{RelayError}
use Rattle.dp_relay.specs.declared.errors.RelayError.TheVariants.{ReadFault, WriteFault, TooLong, Memory}
use Rattle.dp_relay.specs.Ends.{Ends, Gave, SourceHeld, SourceFailed}
use Rattle.dp_relay.specs.Asked.{IsAsked, IsTooLong, IsUnfinished, read_limit}

-- the end of a link from which is read
abbrev pub source_end : {S : Type 0} → source_of.Ghosts S → S → Ends
source_end s source =
    record {
      left = s.left source;
      given = s.given source;
      taken = None;
      source_faults = s.faults source;
      sink_faults = 0;
    }

-- so many bytes were read to the front of the buffer, and no NUL is among them
pub record HasRead (x y : Ends) (buffer : List ℕ) (count : ℕ) : Type 0 where
  pub room : length buffer ≡ read_limit
  pub within : count ≤ read_limit
  pub gave : Gave x y (take count buffer)
  pub no_nul : has_no_nul (take count buffer) ≡ true
  pub held : SourceHeld x y

abbrev pub HeardBy : Ends → Ends → List ℕ → List ℕ → Result ℕ RelayError → Type 0
HeardBy x y read buffer (Ok count) =
    IsAsked read y.left × SourceHeld x y × (take count buffer ≡ up_to_nul read)
    × (count ≤ length buffer)
HeardBy x y read buffer (Err ReadFault) = IsUnfinished read × SourceFailed x y
HeardBy x y read buffer (Err TooLong) = IsTooLong read × SourceHeld x y
HeardBy x y read buffer (Err WriteFault) = ⊥
HeardBy x y read buffer (Err Memory) = ⊥

-- the command stands at the front of the buffer, or it was not read to its end
pub record Heard (x y : Ends) (buffer : List ℕ) (result : Result ℕ RelayError) : Type 0 where
  pub read : List ℕ
  pub gave : Gave x y read
  pub by : HeardBy x y read buffer result
