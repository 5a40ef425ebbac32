-- A registration, from what was read, what was asked and what was put.
use Rattle.std.proofs.Common.{◌≡◌, ℕ, List, take, Result, Ok, Err, refl, sym, ap, subst, ◌∙◌, inr}
use Rattle.dp_outside.specs.declared.sinks.Sink as sink_of
use Rattle.dp_outside.specs.declared.sources.Source as source_of
use Rattle.dp_packet.specs.declared.packet.ProxyReply.{ProxyReply}
use Rattle.dp_wire.specs.Frames.{up_to_nul}
use Rattle.dp_desk.specs.Desks.{Known}
use Rattle.dp_relay.specs.declared.errors.RelayError.{RelayError}
use Rattle.dp_relay.specs.declared.errors.RelayError.TheVariants.{ReadFault, WriteFault, TooLong, Memory}
use Rattle.dp_relay.specs.Ends.{Ends, ends, Gave, Took}
use Rattle.dp_relay.specs.Registrations.{Answered, Replied, Came, Registered, frame_of}
use Rattle.dp_relay.specs.inner.Reading.{Heard, source_end}
use Rattle.dp_relay.specs.inner.Replying.{Puts, sink_end}

-- the command was answered, and this was put of the reply
pub replied_by : (v w : Known) (host command : List ℕ) (x y : Ends) (reply : ProxyReply)
    → Answered v w host command reply → (result : Result ProxyReply RelayError) → Puts x y reply result
    → Replied v w host command x y result
replied_by v w host command x y reply a (Ok answer) p = (
  subst (Answered v w host command) (sym p.0) a,
  subst (λ r. Took x y (frame_of r)) (sym p.0) p.1,
  p.2,
)
replied_by v w host command x y reply a (Err WriteFault) p = ((reply, p.0.0, a, p.0.1), p.1)
replied_by v w host command x y reply a (Err Memory) p = (inr (a.at, inr a.noted), p)
replied_by v w host command x y reply a (Err TooLong) p = absurd p
replied_by v w host command x y reply a (Err ReadFault) p = absurd p

module _ {S K : Type 0} (s : source_of.Ghosts S) (k : sink_of.Ghosts K) (a b : S) (v w : Known) (host : List ℕ) where
  gave_whole : (c d : K) (read : List ℕ) → Gave (source_end s a) (source_end s b) read
      → Gave (ends s k a c) (ends s k b d) read
  gave_whole c d read g =
      record { given = g.given; left = g.left; untold_given = g.untold_given; untold_left = g.untold_left }

  took_whole : (c d : K) (bytes : List ℕ) → Took (sink_end k c) (sink_end k d) bytes
      → Took (ends s k a c) (ends s k b d) bytes
  took_whole c d bytes t = record { taken = t.taken; untold = t.untold }

  replied_whole : (c d : K) (command : List ℕ) (result : Result ProxyReply RelayError)
      → Replied v w host command (sink_end k c) (sink_end k d) result
      → Replied v w host command (ends s k a c) (ends s k b d) result
  replied_whole c d command (Ok answer) r = (r.0, took_whole c d (frame_of answer) r.1, r.2)
  replied_whole c d command (Err WriteFault) r =
      ((r.0.0, r.0.1, r.0.2, took_whole c d (take r.0.1 (frame_of r.0.0)) r.0.3), r.1)
  replied_whole c d command (Err Memory) r = (r.0, record { taken = r.1.taken; held = r.1.held })
  replied_whole c d command (Err TooLong) r = r
  replied_whole c d command (Err ReadFault) r = r

  -- a command was read, and then answered
  module _ (c d : K) (buffer : List ℕ) (count : ℕ)
      (heard : Heard (source_end s a) (source_end s b) buffer (Ok count)) where
    came_by : (result : Result ProxyReply RelayError)
        → Replied v w host (up_to_nul heard.read) (ends s k a c) (ends s k b d) result
        → Came v w host (ends s k a c) (ends s k b d) heard.read result
    came_by (Ok answer) r = (heard.by.0, heard.by.1, r)
    came_by (Err WriteFault) r = (heard.by.0, heard.by.1, r)
    came_by (Err Memory) r = (heard.by.0, heard.by.1, r)
    came_by (Err TooLong) r = absurd r
    came_by (Err ReadFault) r = absurd r

    pub serves : (result : Result ProxyReply RelayError)
        → Replied v w host (take count buffer) (sink_end k c) (sink_end k d) result
        → Registered v w host (ends s k a c) (ends s k b d) result
    serves result r =
        record {
          read = heard.read;
          gave = gave_whole c d heard.read heard.gave;
          came =
              came_by result (replied_whole c d (up_to_nul heard.read) result
              (subst (λ l. Replied v w host l (sink_end k c) (sink_end k d) result) heard.by.2 r));
        }

  -- no command was read
  pub reads_none : (c : K) (buffer : List ℕ) (why : RelayError)
      → Heard (source_end s a) (source_end s b) buffer (Err why)
      → Registered v v host (ends s k a c) (ends s k b c) (Err why)
  reads_none c buffer ReadFault h =
      record {
        read = h.read;
        gave = gave_whole c c h.read h.gave;
        came = (h.by.0, h.by.1, refl, record { taken = refl; held = refl });
      }
  reads_none c buffer TooLong h =
      record {
        read = h.read;
        gave = gave_whole c c h.read h.gave;
        came = (h.by.0, h.by.1, refl, record { taken = refl; held = refl });
      }
  reads_none c buffer WriteFault h = absurd h.by
  reads_none c buffer Memory h = absurd h.by

-- an end of the link changes nothing that it tells
pub finishes : {S K : Type 0} (s : source_of.Ghosts S) (k : sink_of.Ghosts K) (b : S) (d e : K) (v w : Known)
    (host : List ℕ) (x : Ends) (result : Result ProxyReply RelayError)
    → k.taken e ≡ k.taken d → k.faults e ≡ k.faults d
    → Registered v w host x (ends s k b d) result → Registered v w host x (ends s k b e) result
finishes s k b d e v w host x result taken faults r =
    let same : ends s k b d ≡ ends s k b e = ap (λ t. record {
      left = s.left b;
      given = s.given b;
      taken = t;
      source_faults = s.faults b;
      sink_faults = k.faults d;
    }) (sym taken) ∙ ap (λ f. record {
      left = s.left b;
      given = s.given b;
      taken = k.taken e;
      source_faults = s.faults b;
      sink_faults = f;
    }) (sym faults) in
    subst (λ y. Registered v w host x y result) same r
