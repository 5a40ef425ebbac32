-- What is put of a reply.
use Rattle.std.specs.Prelude.{◌≡◌, ℕ, take, None, Result, Ok, Err}
use Rattle.dp_outside.specs.declared.sinks.Sink as sink_of
use Rattle.dp_packet.specs.declared.packet.ProxyReply.{ProxyReply}
use Rattle.dp_relay.specs.declared.errors.RelayError.{RelayError}
use Rattle.dp_relay.specs.declared.errors.RelayError.TheVariants.{ReadFault, WriteFault, TooLong, Memory}
use Rattle.dp_relay.specs.Ends.{Ends, Took, SinkHeld, SinkFailed}
use Rattle.dp_relay.specs.Registrations.{IsSilent, frame_of}

-- the end of a link on which is put
abbrev pub sink_end : {K : Type 0} → sink_of.Ghosts K → K → Ends
sink_end k sink =
    record {
      left = None;
      given = None;
      taken = k.taken sink;
      source_faults = 0;
      sink_faults = k.faults sink;
    }

abbrev pub Puts : Ends → Ends → ProxyReply → Result ProxyReply RelayError → Type 0
Puts x y reply (Ok answer) = (answer ≡ reply) × Took x y (frame_of reply) × SinkHeld x y
Puts x y reply (Err WriteFault) =
    ((front : ℕ) × Took x y (take front (frame_of reply))) × SinkFailed x y
Puts x y reply (Err Memory) = IsSilent x y
Puts x y reply (Err ReadFault) = ⊥
Puts x y reply (Err TooLong) = ⊥
