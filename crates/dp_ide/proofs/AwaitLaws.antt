-- Packets that are awaited, and what they leave.
use Rattle.std.proofs.Common.{◌≡◌, inl, inr, ℕ, ◌+◌, ◌≤◌, min, Bool, true, false, not, ◌&&◌, List, [], ◌∷◌, ◌++◌, length, drop, Option, refl, sym, ap, ◌∙◌, subst, append_assoc, append-nil, arith, length-append}
use Rattle.std.specs.List.{flat_map, list_all, AllByRecursion}
use Rattle.std.specs.Io.KnownBytes.{Consumes, Keeps, IsAtEnd}
use Rattle.std.proofs.KnownBytes.{Consumes-trans, Consumes-kept}
use Rattle.std.proofs.lemmas.Bool.{and_parts}
use Rattle.std.proofs.lemmas.List.Concat.{flat_map-append}
use Rattle.std.proofs.Math.Seq.{drop-append_seam}
use Rattle.dp_outside.specs.Causes.{Rose}
use Rattle.dp_outside.specs.Changes.{Change}
use Rattle.dp_wire.specs.declared.errors.WireError.{WireError}
use Rattle.dp_wire.specs.Frames.{IsPacketText, packet_frame, packets_in, rest_of_packets, BeginsPacket, IsPartialPacket, BeginsNoPacket}
use Rattle.dp_wire.specs.Places.{place_behind, refused_at, IsRefusedAt}
use Rattle.dp_wire.specs.Received.{Received, IsCause, last_place}
use Rattle.dp_wire.proofs.PacketLaws.{packets-first}
use Rattle.dp_ide.specs.declared.errors.IdeError.{IdeError}
use Rattle.dp_ide.specs.declared.errors.IdeError.TheVariants.{BadScript, Differs, PeerEnd, BadPacket, ReadFault, WriteFault, OutFault, Memory}
use Rattle.dp_ide.specs.declared.heard.Heard.{Heard as Kept}
use Rattle.dp_ide.specs.declared.heard.Message.{Message}
use Rattle.dp_ide.specs.Messages.{AreMessages, answers, output_in}
use Rattle.dp_ide.specs.Plays.{IsReadUpTo, piece_limit}
use Rattle.dp_ide.specs.inner.Progress.{Takes, HoldsMore, ComesFor, ComesForOne, TakesNext, LacksNext, NextFails, PieceFails, Hears, PassesOver, TakesAnswer, AnswerFails}

-- ---- packets that were taken

pub each_append : (texts more : List (List ℕ)) → AllByRecursion IsPacketText texts → AllByRecursion IsPacketText more
    → AllByRecursion IsPacketText (texts ++ more)
each_append [] more each other = other
each_append (text ∷ texts) more each other = (each.0, each_append texts more each.1 other)

pub are_append : (texts more : List (List ℕ)) (messages others : List Message) → AreMessages texts messages
    → AreMessages more others → AreMessages (texts ++ more) (messages ++ others)
are_append [] more [] others are later = later
are_append [] more (m ∷ messages) others are later = absurd are
are_append (text ∷ texts) more [] others are later = absurd are
are_append (text ∷ texts) more (m ∷ messages) others are later =
    (are.0, are_append texts more messages others are.1 later)

pub place_push : (texts : List (List ℕ)) (text : List ℕ) (dropped : ℕ) → dropped ≡ place_behind texts
    → min (dropped + length (packet_frame text)) last_place ≡ place_behind (texts ++ text ∷ [])
place_push texts text dropped place =
    let frames : flat_map packet_frame (texts ++ text ∷ []) ≡ flat_map packet_frame texts ++ packet_frame text =
    flat_map-append packet_frame texts (text ∷ []) ∙ ap (λ l. flat_map packet_frame texts ++ l)
    (append-nil (packet_frame text)) in
    omega (arith, place, ap length frames, length-append (flat_map packet_frame texts) (packet_frame text))

-- what came behind what was held, where what is held came behind these frames
pub frames_then : (before held piece now : List ℕ) (texts more : List (List ℕ))
    → before ≡ flat_map packet_frame texts ++ held → held ++ piece ≡ flat_map packet_frame more ++ now
    → before ++ piece ≡ flat_map packet_frame (texts ++ more) ++ now
frames_then before held piece now texts more whole then =
    ap (λ l. l ++ piece) whole ∙ append_assoc (flat_map packet_frame texts) held piece ∙ ap
    (λ l. flat_map packet_frame texts ++ l) then
    ∙ sym (append_assoc (flat_map packet_frame texts) (flat_map packet_frame more) now) ∙ ap (λ l. l ++ now)
    (sym (flat_map-append packet_frame texts more))

pub takes_none : (held : Received) → Takes held held [] []
takes_none held =
    record {
      whole = append-nil held.held;
      each = tt;
      place = λ before is. is ∙ ap place_behind
          (sym (append-nil before));
    }

pub takes_piece : (a b c : Received) (piece more : List ℕ) (texts : List (List ℕ)) → Takes a b piece texts
    → HoldsMore b c more → Takes a c (piece ++ more) texts
takes_piece a b c piece more texts takes holds = record {
  whole =
      sym (append_assoc a.held piece more) ∙ ap (λ l. l ++ more) takes.whole ∙ append_assoc
      (flat_map packet_frame texts) b.held more
      ∙ ap (λ l. flat_map packet_frame texts ++ l) (sym holds.held);
  each = takes.each;
  place = λ before is. holds.dropped ∙ takes.place before is;
}

pub takes_more : (a b c : Received) (piece more : List ℕ) (texts others : List (List ℕ)) → Takes a b piece texts
    → Takes b c more others → Takes a c (piece ++ more) (texts ++ others)
takes_more a b c piece more texts others takes later = record {
  whole =
      sym (append_assoc a.held piece more) ∙ frames_then (a.held ++ piece) b.held more c.held texts others takes.whole
      later.whole;
  each = each_append texts others takes.each later.each;
  place =
      λ before is. later.place (before ++ texts) (takes.place before is) ∙ ap place_behind
      (append_assoc before texts others);
}

-- the first packet that is held is dropped
pub takes_front : (a b c : Received) (piece text rest : List ℕ) → HoldsMore a b piece → BeginsPacket b.held text rest
    → c.held ≡ rest
    → c.dropped ≡ min (b.dropped + length (packet_frame text)) last_place → Takes a c piece (text ∷ [])
takes_front a b c piece text rest holds begins held dropped = record {
  whole =
      sym holds.held ∙ begins.whole ∙ ap (λ l. packet_frame text ++ l) (sym held) ∙ ap (λ l. l ++ c.held)
      (sym (append-nil (packet_frame text)));
  each = (begins.is_text, tt);
  place = λ before is. dropped ∙ place_push before text b.dropped (holds.dropped ∙ is);
}

-- the packets in front are the first packets
packets_front : (texts : List (List ℕ)) (rest : List ℕ) → AllByRecursion IsPacketText texts
    → packets_in (flat_map packet_frame texts ++ rest) ≡ texts ++ packets_in rest
packets_front [] rest each = refl
packets_front (text ∷ texts) rest each =
    ap packets_in (append_assoc (packet_frame text) (flat_map packet_frame texts) rest) ∙ packets-first text
    (flat_map packet_frame texts ++ rest) each.0
    ∙ ap (λ l. text ∷ l) (packets_front texts rest each.1)

module _ (read held : List ℕ) (texts : List (List ℕ)) (each : AllByRecursion IsPacketText texts)
    (whole : read ≡ flat_map packet_frame texts ++ held) where
  pub packets_are : packets_in read ≡ texts ++ packets_in held
  packets_are = ap packets_in whole ∙ packets_front texts held each

  -- where no packet is left, what is held is the rest
  pub rest_is : packets_in held ≡ [] → rest_of_packets read ≡ held
  rest_is none =
      let all : packets_in read ≡ texts = packets_are ∙ ap (λ l. texts ++ l) none ∙ append-nil texts in
      ap (λ (l : List (List ℕ)). drop (length (flat_map packet_frame l)) read) all ∙ ap
      (drop (length (flat_map packet_frame texts))) whole
      ∙ drop-append_seam (flat_map packet_frame texts) held

-- ---- how far it was read

-- a piece came where no packet stood
pub first_wanted : (old here : Received) (piece more : List ℕ) → HoldsMore old here piece → packets_in here.held ≡ []
    → length more ≤ piece_limit → ComesForOne old.held (piece ++ more)
first_wanted old here piece more holds none short = λ text. inr (record {
  front = here.held;
  piece = more;
  whole = sym (append_assoc old.held piece more) ∙ ap (λ l. l ++ more) (sym holds.held);
  short = short;
  fewer = omega (arith, ap length none);
})

-- the same where more packets are wanted
up_to_all : (read : List ℕ) (texts more : List (List ℕ)) → IsReadUpTo texts read → IsReadUpTo (texts ++ more) read
up_to_all read texts more up_to = record {
  front = up_to.front;
  piece = up_to.piece;
  whole = up_to.whole;
  short = up_to.short;
  fewer = omega (arith, up_to.fewer, length-append texts more);
}

-- behind what was held more came, and what was held came behind these packets
up_to_behind : (before held piece : List ℕ) (texts more : List (List ℕ)) → AllByRecursion IsPacketText texts
    → before ≡ flat_map packet_frame texts ++ held → IsReadUpTo more (held ++ piece)
    → IsReadUpTo (texts ++ more) (before ++ piece)
up_to_behind before held piece texts more each whole up_to =
    let frames = flat_map packet_frame texts in
    let stands : packets_in (frames ++ up_to.front) ≡ texts ++ packets_in up_to.front =
    packets_front texts up_to.front each in
    record {
      front = frames ++ up_to.front;
      piece = up_to.piece;
      whole =
          ap (λ l. l ++ piece) whole ∙ append_assoc frames held piece ∙ ap (λ l. frames ++ l) up_to.whole ∙ sym
          (append_assoc frames up_to.front up_to.piece);
      short = up_to.short;
      fewer = omega (
        arith,
        up_to.fewer,
        ap length stands,
        length-append texts (packets_in up_to.front),
        length-append texts more,
      );
    }

pub up_to_more : (read piece held : List ℕ) (texts more : List (List ℕ)) → AllByRecursion IsPacketText texts
    → read ≡ flat_map packet_frame texts ++ held → IsReadUpTo texts read → ComesFor held piece more
    → IsReadUpTo (texts ++ more) (read ++ piece)
up_to_more read piece held texts more each whole up_to (inl none) =
    subst (IsReadUpTo (texts ++ more)) (sym (ap (λ l. read ++ l) none ∙ append-nil read))
    (up_to_all read texts more up_to)
up_to_more read piece held texts more each whole up_to (inr wanted) =
    up_to_behind read held piece texts more each whole wanted

pub wanted_more : (a b : Received) (piece more : List ℕ) (texts others : List (List ℕ)) → Takes a b piece texts
    → ComesFor a.held piece texts → ComesFor b.held more others
    → ComesFor a.held (piece ++ more) (texts ++ others)
wanted_more a b piece more texts others takes (inl none) (inl nothing) = inl (λ i. none i ++ nothing i)
wanted_more a b piece more texts others takes (inr wanted) later =
    inr (subst (IsReadUpTo (texts ++ others)) (append_assoc a.held piece more)
    (up_to_more (a.held ++ piece) more b.held texts others takes.each takes.whole wanted later))
wanted_more a b piece more texts others takes (inl none) (inr wanted) =
    inr (subst (IsReadUpTo (texts ++ others)) (append_assoc a.held piece more)
    (up_to_behind (a.held ++ piece) b.held more texts others takes.each takes.whole wanted))

-- what rose behind a later count rose behind an earlier one
pub rose_since : (first before now : ℕ) → first ≤ before → Rose before now → Rose first now
rose_since first before now later rose = omega (arith, rose, later)

-- ---- the next packet

pub refused_next : (old here : Received) (piece : List ℕ) (why : WireError) (offset : ℕ) → HoldsMore old here piece
    → BeginsNoPacket here.held → IsCause here why
    → offset ≡ refused_at why here.dropped
    → IsRefusedAt (record { held = old.held ++ piece; dropped = old.dropped }) offset
refused_next old here piece why offset holds none cause place =
    let same : here ≡ record { held = old.held ++ piece; dropped = old.dropped } = λ i. record
    { held = holds.held i; dropped = holds.dropped i } in
    subst (λ (r : Received). IsRefusedAt r offset) same (record
    { none = none; why = why; is_why = cause; place = place })

pub piece_failed : (why : IdeError) (old here : Received) (piece : List ℕ) (source whole : Change)
    → HoldsMore old here piece → Consumes whole.told_before source.told_before piece
    → whole.faults_before ≤ source.faults_before → source.told ≡ whole.told → source.faults ≡ whole.faults
    → IsPartialPacket here.held → PieceFails why source → NextFails why old whole
piece_failed ReadFault old here piece source whole holds first later told faults partial f = record {
  piece = piece;
  consumed =
      Consumes-kept whole.told_before source.told_before whole.told piece first
      (subst (Keeps source.told_before) told f.1);
  lacks = (
    subst IsPartialPacket holds.held partial,
    subst (λ (n : ℕ). Rose whole.faults_before n) faults
        (rose_since whole.faults_before source.faults_before source.faults later f.0),
  );
}
piece_failed Memory old here piece source whole holds first later told faults partial f = record {
  piece = piece ++ f.0;
  consumed =
      Consumes-trans whole.told_before source.told_before whole.told piece f.0 first
      (subst (λ (t : Option (List ℕ)). Consumes source.told_before t f.0) told f.1);
  lacks = tt;
}
piece_failed PeerEnd old here piece source whole holds first later told faults partial f = absurd f
piece_failed (BadPacket offset) old here piece source whole holds first later told faults partial f = absurd f
piece_failed (BadScript line) old here piece source whole holds first later told faults partial f = absurd f
piece_failed (Differs line wanted found) old here piece source whole holds first later told faults partial f = absurd f
piece_failed WriteFault old here piece source whole holds first later told faults partial f = absurd f
piece_failed OutFault old here piece source whole holds first later told faults partial f = absurd f

-- ---- the answer to a command

none_append : (id : List ℕ) (messages others : List Message)
    → list_all (λ message. not (answers id message.packet)) messages ≡ true
    → list_all (λ message. not (answers id message.packet)) others ≡ true
    → list_all (λ message. not (answers id message.packet)) (messages ++ others) ≡ true
none_append id [] others none later = later
none_append id (m ∷ messages) others none later =
    let first = and_parts (not (answers id m.packet)) (list_all (λ message. not (answers id message.packet)) messages)
    none in
    ap (λ (b : Bool). b && list_all (λ message. not (answers id message.packet)) (messages ++ others)) first.0 ∙
    none_append id messages others first.1 later

pub passes_none : (id : List ℕ) (held : Received) (kept : Kept) → PassesOver id held held kept kept []
passes_none id held kept = record {
  texts = [];
  wanted = inl refl;
  takes = takes_none held;
  messages = [];
  are = tt;
  none = refl;
  last = refl;
  output = sym (append-nil kept.output.items);
}

module _ (id : List ℕ) (a b c : Received) (before between after : Kept) (piece : List ℕ)
    (passes : PassesOver id a b before between piece) (source : Change) where
  pub passes_more : (message : Message) (next : TakesNext b c source message) → Hears id message between after false
      → PassesOver id a c before after (piece ++ next.piece)
  passes_more message next hears = record {
    texts = passes.texts ++ next.text ∷ [];
    wanted =
        wanted_more a b piece next.piece passes.texts (next.text ∷ []) passes.takes passes.wanted next.wanted;
    takes = takes_more a b c piece next.piece passes.texts (next.text ∷ []) passes.takes next.takes;
    messages = passes.messages ++ message ∷ [];
    are = are_append passes.texts (next.text ∷ []) passes.messages (message ∷ []) passes.are (next.is, tt);
    none = none_append id passes.messages (message ∷ []) passes.none (ap (λ (b : Bool). not b && true) hears.is);
    last = hears.last ∙ passes.last;
    output =
        hears.output ∙ ap (λ l. l ++ output_in message.packet) passes.output ∙ append_assoc before.output.items
        (flat_map (λ m. output_in m.packet) passes.messages) (output_in message.packet)
        ∙ ap (λ l. before.output.items
        ++ l) (ap (λ l. flat_map (λ (m : Message). output_in m.packet) passes.messages ++ l)
        (sym (append-nil (output_in message.packet)))
        ∙ sym (flat_map-append (λ (m : Message). output_in m.packet) passes.messages (message ∷ [])));
  }

  module _ (whole : Change) (first : Consumes whole.told_before source.told_before piece)
      (last : source.told ≡ whole.told) where
    pub answer_taken : (message : Message) → TakesNext b c source message → Hears id message between after true
        → TakesAnswer id before after a c whole
    answer_taken message next hears = record {
      piece = piece ++ next.piece;
      consumed = Consumes-trans whole.told_before source.told_before whole.told piece next.piece first
          (subst (λ (t : Option (List ℕ)). Consumes source.told_before t next.piece) last next.consumed);
      texts = passes.texts ++ next.text ∷ [];
      wanted =
          wanted_more a b piece next.piece passes.texts (next.text ∷ []) passes.takes passes.wanted next.wanted;
      takes = takes_more a b c piece next.piece passes.texts (next.text ∷ []) passes.takes next.takes;
      messages = passes.messages ++ message ∷ [];
      are = are_append passes.texts (next.text ∷ []) passes.messages (message ∷ []) passes.are (next.is, tt);
      answered = λ printed. record {
        passed = passes.messages;
        answer = message;
        whole = refl;
        none = passes.none;
        is = hears.is;
        heard =
            λ i. record {
              last = hears.last i;
              output = (hears.output ∙ append-nil between.output.items ∙ passes.output)
                  i;
              printed = printed;
            };
      };
    }

lacks_since : (why : IdeError) (now : Received) (source whole : Change) → whole.faults_before ≤ source.faults_before
    → source.told ≡ whole.told → source.faults ≡ whole.faults
    → LacksNext why now source → LacksNext why now whole
lacks_since PeerEnd now source whole later told faults lacks = (lacks.0, subst IsAtEnd told lacks.1)
lacks_since ReadFault now source whole later told faults lacks = (
  lacks.0,
  subst (λ (n : ℕ). Rose whole.faults_before n) faults
      (rose_since whole.faults_before source.faults_before source.faults later lacks.1),
)
lacks_since (BadPacket offset) now source whole later told faults lacks = lacks
lacks_since Memory now source whole later told faults lacks = tt
lacks_since (BadScript line) now source whole later told faults lacks = absurd lacks
lacks_since (Differs line wanted found) now source whole later told faults lacks = absurd lacks
lacks_since WriteFault now source whole later told faults lacks = absurd lacks
lacks_since OutFault now source whole later told faults lacks = absurd lacks

pub answer_failed : (why : IdeError) (id : List ℕ) (a b : Received) (before between : Kept) (piece : List ℕ)
    (source whole : Change) → PassesOver id a b before between piece
    → Consumes whole.told_before source.told_before piece → whole.faults_before ≤ source.faults_before
    → source.told ≡ whole.told → source.faults ≡ whole.faults
    → NextFails why b source → AnswerFails id why a whole
answer_failed why id a b before between piece source whole passes first later told faults fails = record {
  piece = piece ++ fails.piece;
  consumed = Consumes-trans whole.told_before source.told_before whole.told piece fails.piece first
      (subst (λ (t : Option (List ℕ)). Consumes source.told_before t fails.piece) told fails.consumed);
  texts = passes.texts;
  now = record { held = b.held ++ fails.piece; dropped = b.dropped };
  takes =
      takes_piece a b (record { held = b.held ++ fails.piece; dropped = b.dropped }) piece fails.piece passes.texts
      passes.takes (record { held = refl; dropped = refl });
  messages = passes.messages;
  are = passes.are;
  none = passes.none;
  lacks =
      lacks_since why (record { held = b.held ++ fails.piece; dropped = b.dropped }) source whole later told faults
      fails.lacks;
}
