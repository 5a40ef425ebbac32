-- What an act of a session changes of what its engine stands for.
use Rattle.std.proofs.Common.{◌≡◌, ℕ, ◌+◌, ◌≤◌, List, [], ◌∷◌, ◌++◌, length, take, drop, flat_map, refl, sym, ap, subst, ◌∙◌}
use Rattle.std.proofs.Common.{append_assoc, append-nil, arith, length-append, length-take, length-drop}
use Rattle.std.proofs.lemmas.List.{take-append-le, take-append-drop}
use Rattle.std.proofs.lemmas.List.Concat.{flat_map-append}
use Rattle.std.proofs.Math.Seq.{take-append_seam, drop-append_seam}
use Rattle.std.specs.List.{AllByRecursion}
use Rattle.dp_world.specs.Alone.{Engines, alone}
use Rattle.dp_wire.specs.Frames.{Splits, IsCommand, command_frame, commands_in, rest_of, packet_frame, packets_in, rest_of_packets}
use Rattle.dp_wire.proofs.SplitLaws.{commands_split, one_split_lem}
use Rattle.dp_wire.proofs.PacketLaws.{packets_split}
use Rattle.dp_lanes.specs.declared.lane.LaneKind.{LaneKind}
use Rattle.dp_lanes.specs.declared.lane.LaneKind.TheVariants.{Up, Down}
use Rattle.dp_lanes.specs.Lanes.{frame, texts_in, rest_in}
use Rattle.dp_lanes.proofs.StreamLaws.{frame_some, split_on, splits}
use Rattle.dp_proxy.specs.declared.events.Act.{Act}
use Rattle.dp_proxy.specs.declared.events.Act.TheVariants.{Moved}
use Rattle.dp_proxy.specs.Links.{brought, stream, completed, handed}
use Rattle.dp_proxy.proofs.PassLaws.{stream_push}
use Rattle.dp_world.specs.declared.engine.Engine.{Engine}
use Rattle.dp_world.specs.inner.EngineStates.{Serves, IsEngineAfter, IsReadFor}
use Rattle.dp_world.specs.inner.KeptLinks.{IsReadWith}
use Rattle.dp_world.specs.inner.Changes.{EngineTakes}
use Rattle.dp_world.proofs.EngineLaws.{grows}

-- ---- a stream that goes on

all_behind : {X : Type 0} (P : X → Type 0) (a b : List X) → AllByRecursion P (a ++ b) → AllByRecursion P b
all_behind P [] b p = p
all_behind P (x ∷ a) b p = all_behind P a b p.1

no_frames : (kind : LaneKind) (texts : List (List ℕ)) → flat_map (frame kind) texts ≡ [] → texts ≡ []
no_frames kind [] e = refl
no_frames kind (text ∷ texts) e =
    absurd (omega (
      arith,
      ap length e,
      length-append (frame kind text)
          (flat_map (frame kind) texts),
      frame_some kind text,
    ))

-- the texts of more bytes begin with those of the first
more_texts : (kind : LaneKind) (a b : List ℕ)
    → texts_in kind (a ++ b) ≡ texts_in kind a ++ drop (length (texts_in kind a)) (texts_in kind (a ++ b))
more_texts kind a b =
    let first = texts_in kind a in
    let more = rest_in kind a ++ b in
    let same = (split_on kind a b (texts_in kind more) (rest_in kind more) (splits kind more)).0 in
    same ∙ ap (λ l. first ++ l) (sym (ap (drop (length first)) same ∙ drop-append_seam first (texts_in kind more)))

module _ (kind : LaneKind) (acts : List Act) (act : Act) where
  abbrev before : List (List ℕ)
  before = texts_in kind (stream kind acts)

  abbrev after : List (List ℕ)
  after = texts_in kind (stream kind (acts ++ act ∷ []))

  texts_act : after ≡ before ++ completed kind acts act
  texts_act =
      subst (λ s. texts_in kind s ≡ before ++ drop (length before) (texts_in kind s)) (sym (stream_push kind acts act))
      (more_texts kind (stream kind acts) (brought kind act))

  frames_act : flat_map (frame kind) after ≡ flat_map (frame kind) before ++ handed kind acts act
  frames_act = ap (flat_map (frame kind)) texts_act ∙ flat_map-append (frame kind) before (completed kind acts act)

  -- where nothing is handed out, or nothing came, no text is completed
  pub same_texts : handed kind acts act ≡ [] → after ≡ before
  same_texts none =
      texts_act ∙ ap (λ l. before ++ l) (no_frames kind (completed kind acts act) none) ∙ append-nil before

  stream_stays : brought kind act ≡ [] → stream kind (acts ++ act ∷ []) ≡ stream kind acts
  stream_stays none = stream_push kind acts act ∙ ap (λ l. stream kind acts ++ l) none ∙ append-nil (stream kind acts)

  pub nothing_handed : brought kind act ≡ [] → handed kind acts act ≡ []
  nothing_handed none =
      ap (λ s. flat_map (frame kind) (drop (length before) (texts_in kind s))) (stream_stays none)
      ∙ ap (flat_map (frame kind)) (ap (drop (length before)) (sym (append-nil before)) ∙ drop-append_seam before [])

-- the whole commands that are handed down
module _ (acts : List Act) (act : Act) where
  down_split : Splits IsCommand command_frame (handed Down acts act) (completed Down acts act) []
  down_split = record {
    whole = sym (append-nil (handed Down acts act));
    each = all_behind IsCommand (commands_in (stream Down acts)) (completed Down acts act)
        (subst (AllByRecursion IsCommand) (texts_act Down acts act)
        (commands_split (stream Down (acts ++ act ∷ []))).each);
    no_more =
        λ text more is e. let none = ap length e in let some = frame_some Down text in omega
        (arith, none, some, length-append (command_frame text) more);
  }

  down_is : (commands_in (handed Down acts act) ≡ completed Down acts act) × (rest_of (handed Down acts act) ≡ [])
  down_is =
      one_split_lem (handed Down acts act) (commands_in (handed Down acts act)) (completed Down acts act)
      (rest_of (handed Down acts act)) []
      (commands_split (handed Down acts act)) down_split

  pub down_whole : rest_of (handed Down acts act) ≡ []
  down_whole = down_is.1

  down_lines : commands_in (stream Down acts)
      ++ commands_in (handed Down acts act) ≡ commands_in (stream Down (acts ++ act ∷ []))
  down_lines = ap (λ l. commands_in (stream Down acts) ++ l) down_is.0 ∙ sym (texts_act Down acts act)

-- ---- an engine

module _ {S E : Type 0} (engines : Engines S E) (key : List ℕ) (acts : List Act) (engine : Engine S E)
    (stands : IsEngineAfter engines key acts engine) where
  -- ---- what is read

  module _ (count : ℕ) (piece : List ℕ) (is : piece ≡ take count (drop engine.read engine.sent.items)) where
    abbrev read_on : Engine S E
    read_on = record engine { read = engine.read + length piece }

    still_within : engine.read + length piece ≤ length engine.sent.items
    still_within =
        let small = stands.read in
        omega (
          arith,
          ap length is,
          length-take count (drop engine.read engine.sent.items),
          length-drop engine.read
              engine.sent.items,
        )

    pub read_stands : IsEngineAfter engines key acts read_on
    read_stands = record {
      serves = record {
        sent = stands.serves.sent;
        own = stands.serves.own;
        session = stands.serves.session;
        ended = stands.serves.ended;
        given = stands.serves.given;
      };
      up = stands.up;
      received = stands.received;
      within = let w = stands.within in omega arith;
      read = still_within;
    }

    module _ (all : IsReadFor acts engine) where
      so_far : stream Up acts ≡ take engine.read engine.sent.items
      so_far = stands.up ∙ ap (λ (n : ℕ). take n engine.sent.items) (sym all)

      pub read_sent : piece ≡ take count (drop (length (stream Up acts)) (alone engines key (stream Down acts)))
      read_sent =
          is ∙ ap (λ (n : ℕ). take count (drop n engine.sent.items)) all ∙ ap
          (λ s. take count (drop (length (stream Up acts)) s)) stands.serves.sent

      cut : engine.sent.items ≡ (stream Up acts ++ piece) ++ drop count (drop engine.read engine.sent.items)
      cut =
          sym (take-append-drop engine.read engine.sent.items)
          ∙ ap (λ l. l ++ drop engine.read engine.sent.items) (sym so_far)
          ∙ ap (λ l. stream Up acts
          ++ l) (sym (take-append-drop count (drop engine.read engine.sent.items)) ∙ ap
          (λ l. l ++ drop count (drop engine.read engine.sent.items)) (sym is))
          ∙ sym (append_assoc (stream Up acts) piece (drop count (drop engine.read engine.sent.items)))

      front : stream Up acts ++ piece ≡ take (length (stream Up acts ++ piece)) engine.sent.items
      front =
          sym (ap (take (length (stream Up acts ++ piece))) cut ∙ take-append_seam (stream Up acts ++ piece)
          (drop count (drop engine.read engine.sent.items)))

      pub read_with : IsReadWith acts (Moved piece) read_on
      read_with =
          let pushed = stream_push Up acts (Moved piece) in
          let long : engine.read + length piece ≡ length (stream Up acts ++ piece) = all_more all ∙ sym
          (length-append (stream Up acts) piece) in
          record {
            all = long ∙ ap length (sym pushed);
            up = subst (λ s. s ≡ take (length s) engine.sent.items) (sym pushed) front;
          }
        where
          all_more : engine.read ≡ length (stream Up acts)
              → engine.read + length piece ≡ length (stream Up acts) + length piece
          all_more e = ap (λ (n : ℕ). n + length piece) e

  -- ---- after the act

  module _ (act : Act) (ready : IsReadWith acts act engine) where
    acted : (after : Engine S E) (rest : List ℕ)
        → Serves engines key (commands_in (stream Down (acts ++ act ∷ []))) after
        → after.sent.items ≡ engine.sent.items ++ rest → after.read ≡ engine.read
        → after.received ≡ engine.received + length (handed Up acts act)
        → IsEngineAfter engines key (acts ++ act ∷ []) after × IsReadFor (acts ++ act ∷ []) after
    acted after rest serves more read received =
        let all = ready.all in
        let small = stands.read in
        let s : List ℕ = stream Up (acts ++ act ∷ []) in
        let short : length s ≤ length engine.sent.items = omega arith in (
          record {
            serves = serves;
            up = ready.up ∙ sym (ap (take (length s)) more ∙ take-append-le (length s) engine.sent.items rest short);
            received = received ∙ ap (λ (n : ℕ). n + length (handed Up acts act)) stands.received
                ∙ sym (length-append (flat_map packet_frame (packets_in (stream Up acts))) (handed Up acts act)) ∙ sym
                (ap length (frames_act Up acts act));
            within = omega arith;
            read = omega (arith, ap length more, length-append engine.sent.items rest);
          },
          read ∙ all,
        )

    pub stays : handed Down acts act ≡ [] → handed Up acts act ≡ []
        → IsEngineAfter engines key (acts ++ act ∷ []) engine × IsReadFor (acts ++ act ∷ []) engine
    stays down up =
        acted engine [] (subst (λ l. Serves engines key l engine)
        (sym (same_texts Down acts act down)) stands.serves) (sym (append-nil engine.sent.items)) refl
        (let none = ap length up in omega arith)

    pub may_receive : engine.received + length (handed Up acts act) ≤ engine.read
    may_receive =
        let s : List ℕ = stream Up (acts ++ act ∷ []) in
        let all = ready.all in
        let before = stands.received in
        let frames = ap length (frames_act Up acts act) in
        let whole = ap length (packets_split s).whole in
        omega (
          arith,
          length-append (flat_map packet_frame (packets_in s)) (rest_of_packets s),
          length-append (flat_map packet_frame (packets_in (stream Up acts))) (handed Up acts act),
        )

    pub receives : brought Down act ≡ []
        → IsEngineAfter engines key (acts ++ act
        ∷ []) (record engine { received = engine.received + length (handed Up acts act) })
        × IsReadFor (acts ++ act ∷ []) (record engine { received = engine.received + length (handed Up acts act) })
    receives none =
        let s : Serves engines key (commands_in (stream Down (acts ++ act ∷ []))) engine =
        subst (λ l. Serves engines key l engine) (sym (same_texts Down acts act
        (nothing_handed Down acts act none))) stands.serves in
        acted (record engine { received = engine.received + length (handed Up acts act) }) []
        (record { sent = s.sent; own = s.own; session = s.session; ended = s.ended; given = s.given })
        (sym (append-nil engine.sent.items)) refl refl

    pub takes : (after : Engine S E) → brought Up act ≡ [] → EngineTakes engines engine (handed Down acts act) after
        → IsEngineAfter engines key (acts ++ act ∷ []) after × IsReadFor (acts ++ act ∷ []) after
    takes after none t =
        let serves : Serves engines key (commands_in (stream Down (acts ++ act ∷ []))) after =
        subst (λ l. Serves engines key l after) (down_lines acts act)
        (t.serves key (commands_in (stream Down acts)) stands.serves) in
        let g = grows engines key (stream Down acts) (brought Down act) in
        let sent : after.sent.items ≡ engine.sent.items ++ g.0 =
        serves.sent ∙ ap (alone engines key) (stream_push Down acts act) ∙ g.1 ∙ ap (λ l. l ++ g.0)
        (sym stands.serves.sent) in
        acted after g.0 serves sent t.read (let nothing = ap length
        (nothing_handed Up acts act none) in let same = t.received in omega arith)

pub begun : {S E : Type 0} (engines : Engines S E) (key : List ℕ) (engine : Engine S E) → Serves engines key [] engine
    → engine.read ≡ 0 → engine.received ≡ 0
    → IsEngineAfter engines key [] engine × IsReadFor [] engine
begun engines key engine serves read received =
    (record { serves = serves; up = refl; received = received; within = omega arith; read = omega arith }, read)
