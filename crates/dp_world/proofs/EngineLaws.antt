-- What an engine in memory comes to with more commands.
use Rattle.std.proofs.Common.{◌≡◌, ℕ, List, [], ◌∷◌, ◌++◌, length, take, drop, Option, Some, None, is_some, true, refl, sym, ap, ◌∙◌, append_assoc, append-nil}
use Rattle.std.specs.Borrow.{GName}
use Rattle.std.specs.List.{flat_map}
use Rattle.std.proofs.lemmas.Bool.{false≢true}
use Rattle.std.proofs.lemmas.List.{take_at, take-append-drop}
use Rattle.std.proofs.lemmas.List.Concat.{flat_map-append}
use Rattle.dp_world.specs.Alone.{Engines, alone, answers_to}
use Rattle.dp_conversation.specs.declared.responder.Answer.{Answer}
use Rattle.dp_conversation.specs.Folds.{Reply, followed, replies, reply_of, unless_ended}
use Rattle.dp_conversation.specs.Growth.{Begins, served}
use Rattle.dp_conversation.proofs.GrowthLaws.{served_goes_on}
use Rattle.dp_conversation.proofs.ServiceLaws.{replies_append, replies_join}
use Rattle.dp_wire.specs.Frames.{command_frame, commands_in, rest_of, packet_frame, packets_in, rest_of_packets}
use Rattle.dp_wire.proofs.SplitLaws.{commands_split}
use Rattle.dp_wire.proofs.PacketLaws.{packets_split}
use Rattle.dp_lanes.specs.declared.lane.LaneKind.TheVariants.{Up, Down}
use Rattle.dp_proxy.specs.declared.events.Act.{Act}
use Rattle.dp_proxy.specs.Links.{stream}
use Rattle.dp_world.specs.declared.engine.Ended.{Ended}
use Rattle.dp_world.specs.declared.engine.Engine.{Engine}
use Rattle.dp_world.specs.Transcript.{received}
use Rattle.dp_world.specs.inner.EngineStates.{Serves, IsEngineAfter, Shows}
use Rattle.dp_world.specs.inner.LentSessions.{lent}

-- ---- a session that is lent

module _ {G S E : Type 0} (step : G → S → List ℕ → Reply S E) (engines : G) (name : GName) where
  followed_lent : (first rest : Reply S E) (ended : Option E)
      → unless_ended ended (lent engines name first) (lent engines name rest)
      ≡ lent engines name (unless_ended ended first rest)
  followed_lent first rest None = refl
  followed_lent first rest (Some end) = refl

  replies_lent : (state : S) (lines : List (List ℕ))
      → replies (λ (l : G × (S × GName)) line. lent l.0 l.1.1 (step l.0 l.1.0 line)) (engines, (state, name)) lines
      ≡ lent engines name (replies (step engines) state lines)
  replies_lent state [] = refl
  replies_lent state (line ∷ lines) =
      let first = step engines state line in
      ap (followed (lent engines name first)) (replies_lent first.state lines)
      ∙ followed_lent first (replies (step engines) first.state lines) first.ended

  -- it is the same session, and has answered
  pub is_lent : (answer : Answer E) (now : G × (S × GName)) (state : S) (lines : List (List ℕ))
      → reply_of answer now
      ≡ replies (λ (l : G × (S × GName)) line. lent l.0 l.1.1 (step l.0 l.1.0 line)) (engines, (state, name)) lines
      → (reply_of answer now.1.0 ≡ replies (step engines) state lines) × (now.1.1 ≡ name)
  is_lent answer now state lines is =
      let all = is ∙ replies_lent state lines in (
        ap (λ (r : Reply (G × (S × GName)) E). record {
          packets = r.packets;
          program = r.program;
          state = r.state.1.0;
          ended = r.ended;
        }) all,
        ap (λ (r : Reply (G × (S × GName)) E). r.state.1.1) all,
      )

-- ---- whole commands

followed_ended : {S E : Type 0} (first rest : Reply S E) (ended : Option E) → is_some ended ≡ true
    → unless_ended ended first rest ≡ first
followed_ended first rest None e = absurd (false≢true e)
followed_ended first rest (Some end) e = refl

whole_commands : (bytes : List ℕ) → rest_of bytes ≡ [] → bytes ≡ flat_map command_frame (commands_in bytes)
whole_commands bytes whole =
    (commands_split bytes).whole ∙ ap (λ r. flat_map command_frame (commands_in bytes) ++ r) whole ∙ append-nil
    (flat_map command_frame (commands_in bytes))

-- they were put behind those that it was given
module _ {S E : Type 0} (engines : Engines S E) (bytes : List ℕ) (x y : Engine S E) (whole : rest_of bytes ≡ [])
    (given : y.given.items ≡ x.given.items ++ bytes) (key : List ℕ) (lines : List (List ℕ))
    (s : Serves engines key lines x) where
  given_more : y.given.items ≡ flat_map command_frame (lines ++ commands_in bytes)
  given_more =
      given ∙ ap (λ l. l ++ bytes) s.given
      ∙ ap (λ l. flat_map command_frame lines ++ l) (whole_commands bytes whole)
      ∙ sym (flat_map-append command_frame lines (commands_in bytes))

  -- and answered
  pub takes_all : (answer : Answer E) → x.ended ≡ None
      → reply_of answer y.session ≡ served engines.step x.session bytes
      → y.sent.items ≡ x.sent.items ++ flat_map packet_frame answer.packets
      → y.own.items ≡ x.own.items ++ answer.program → y.ended ≡ answer.ended
      → Serves engines key (lines ++ commands_in bytes) y
  takes_all answer goes_on is sent own ended =
      let f = answers_to engines lines in
      let first = packet_frame (engines.init key) in
      let all = replies_join engines.step engines.opening x.session lines (commands_in bytes) (sym s.ended ∙ goes_on)
      (sym s.session) in
      record {
        sent = sent ∙ ap (λ l. l ++ flat_map packet_frame answer.packets) s.sent
            ∙ append_assoc first (flat_map packet_frame f.packets) (flat_map packet_frame answer.packets)
            ∙ ap (λ (r : Reply S E). first ++ (flat_map packet_frame f.packets ++ flat_map packet_frame r.packets)) is
            ∙ ap (λ l. first ++ l) (sym all.packets);
        own = own ∙ ap (λ l. l ++ answer.program) s.own
            ∙ ap (λ (r : Reply S E). f.program ++ r.program) is ∙ sym all.program;
        session = ap (λ (r : Reply S E). r.state) is ∙ sym all.state;
        ended = ended ∙ ap (λ (r : Reply S E). r.ended) is ∙ sym all.ended;
        given = given_more;
      }

  -- and not answered, as one has ended the session
  pub takes_none : is_some x.ended ≡ true
      → Serves engines key (lines ++ commands_in bytes) (record x { given = y.given })
  takes_none over =
      let f = answers_to engines lines in
      let all : f ≡ answers_to engines (lines ++ commands_in bytes) =
      sym (replies_append engines.step engines.opening lines (commands_in bytes)
      ∙ followed_ended f (served engines.step f.state bytes) f.ended (ap is_some (sym s.ended) ∙ over)) in
      record {
        sent = s.sent
            ∙ ap (λ (r : Reply S E). packet_frame (engines.init key) ++ flat_map packet_frame r.packets) all;
        own = s.own ∙ ap (λ (r : Reply S E). r.program) all;
        session = s.session ∙ ap (λ (r : Reply S E). r.state) all;
        ended = s.ended ∙ ap (λ (r : Reply S E). r.ended) all;
        given = given_more;
      }

-- ---- more bytes only add to what is sent

pub grows : {S E : Type 0} (engines : Engines S E) (key bytes more : List ℕ)
    → Begins (alone engines key bytes) (alone engines key (bytes ++ more))
grows engines key bytes more =
    let g = served_goes_on engines.step engines.opening bytes more in
    let first = packet_frame (engines.init key) in
    let before = replies engines.step engines.opening (commands_in bytes) in (
      flat_map packet_frame g.packets,
      ap (λ p. first ++ flat_map packet_frame p) g.more_packets
          ∙ ap (λ l. first ++ l) (flat_map-append packet_frame before.packets g.packets)
          ∙ sym (append_assoc first (flat_map packet_frame before.packets) (flat_map packet_frame g.packets)),
    )

-- ---- the end of a session

module _ {S E : Type 0} (engines : Engines S E) (key : List ℕ) (acts : List Act) (engine : Engine S E)
    (stands : IsEngineAfter engines key acts engine) where
  pub received_is : take engine.received engine.sent.items ≡ received engines key (stream Down acts)
      (length (stream Up acts))
  received_is =
      let up = stream Up acts in
      let frames = flat_map packet_frame (packets_in up) in
      let behind = drop (length up) engine.sent.items in
      let sent : engine.sent.items ≡ frames ++ (rest_of_packets up ++ behind) =
      sym (take-append-drop (length up) engine.sent.items) ∙ ap (λ l. l ++ behind)
      (sym stands.up ∙ (packets_split up).whole)
      ∙ append_assoc frames (rest_of_packets up) behind in
      let front : up ≡ take (length up) (alone engines key (stream Down acts)) = stands.up ∙ ap
      (take (length up)) stands.serves.sent in
      ap (λ n. take n engine.sent.items) stands.received ∙ ap (take (length frames)) sent ∙ take_at frames
      (rest_of_packets up ++ behind) (length frames) refl
      ∙ ap (λ l. flat_map packet_frame (packets_in l)) front

  pub ended_shows : (end : Ended) → end.received.items ≡ take engine.received engine.sent.items
      → end.given.items ≡ engine.given.items
      → end.own.items ≡ engine.own.items ++ engines.rest_after engine.ended engine.session
      → end.outcome ≡ engines.ending_after engine.ended engine.session
      → Shows engines key (stream Down acts) (length (stream Up acts)) end
  ended_shows end front given own outcome =
      let s = stands.serves in
      record {
        received = front ∙ received_is;
        commands = given ∙ s.given;
        output = own ∙ (λ i. s.own i ++ engines.rest_after (s.ended i) (s.session i));
        outcome = outcome ∙ (λ i. engines.ending_after (s.ended i) (s.session i));
      }
