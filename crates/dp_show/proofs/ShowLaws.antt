-- How far `show` has come, one packet and one piece at a time, and what it comes to.
use Rattle.std.proofs.Common.{◌≡◌, ◌≢◌, ◌⊎◌, inl, inr, ℕ, ◌+◌, ◌≤◌, min, List, [], ◌∷◌, ◌++◌, length, take, drop, refl, sym, ap, ◌∙◌, subst, append_assoc, append-nil, arith, length-append}
use Rattle.std.specs.List.{flat_map, AllByRecursion}
use Rattle.std.specs.Io.KnownBytes.{Appends, Consumes, IsAtEnd}
use Rattle.std.proofs.KnownBytes.{Appends-nil, Appends-trans, Consumes-trans, Consumes-kept}
use Rattle.std.proofs.lemmas.List.{take_all}
use Rattle.std.proofs.lemmas.List.Concat.{flat_map-append}
use Rattle.std.proofs.Math.Seq.{drop-append_seam, take-append-add}
use Rattle.std.specs.Prelude.{Ok, Err}
use Rattle.dp_markup.specs.declared.tree.Element.{Element}
use Rattle.dp_markup.specs.Grammar.{IsMarkup}
use Rattle.dp_outside.specs.Causes.{Rose}
use Rattle.dp_outside.specs.Changes.{Change}
use Rattle.dp_outside.specs.Streams.{AppendsFront}
use Rattle.dp_wire.specs.Frames.{IsPacketText, packet_frame, packets_in, rest_of_packets, BeginsPacket, IsPartialPacket}
use Rattle.dp_wire.specs.Received.{Received, last_place}
use Rattle.dp_wire.proofs.LengthLaws.{partial-none, refused-never}
use Rattle.dp_wire.proofs.PacketLaws.{packets-first}
use Rattle.dp_show.specs.declared.errors.ShowError.{ShowError}
use Rattle.dp_show.specs.declared.errors.ShowError.TheVariants.{PeerEnd, BadPacket, ReadFault, OutFault, Memory}
use Rattle.dp_show.specs.Lines.{line_of, lines_of, AreMarkup}
use Rattle.dp_show.specs.Shows.{Shown, Shows, IsCutShort, Ends, IsBadAt}
use Rattle.dp_wire.specs.Places.{place_behind, IsRefusedAt}
use Rattle.dp_show.specs.inner.Progress.{Output, IsLine, HasShown, WasShowing, ShowsOn, IsCut, HasNoMarkup, TextFails, HeldFails, PieceFails}

-- ---- one text more

each_push : (texts : List (List ℕ)) (text : List ℕ) → AllByRecursion IsPacketText texts → IsPacketText text
    → AllByRecursion IsPacketText (texts ++ text ∷ [])
each_push [] text each is = (is, tt)
each_push (other ∷ texts) text each is = (each.0, each_push texts text each.1 is)

markup_push : (texts : List (List ℕ)) (elements : List Element) (text : List ℕ) (e : Element) → AreMarkup texts elements
    → IsMarkup text e
    → AreMarkup (texts ++ text ∷ []) (elements ++ e ∷ [])
markup_push [] [] text e are is = (is, tt)
markup_push [] (other ∷ elements) text e are is = absurd are
markup_push (other ∷ texts) [] text e are is = absurd are
markup_push (other ∷ texts) (before ∷ elements) text e are is = (are.0, markup_push texts elements text e are.1 is)

-- the frames, with one more behind them
frames_push : (texts : List (List ℕ)) (text : List ℕ)
    → flat_map packet_frame (texts ++ text ∷ []) ≡ flat_map packet_frame texts ++ packet_frame text
frames_push texts text =
    flat_map-append packet_frame texts (text ∷ [])
    ∙ ap (λ l. flat_map packet_frame texts ++ l) (append-nil (packet_frame text))

lines_push : (elements : List Element) (e : Element) → lines_of (elements ++ e ∷ []) ≡ lines_of elements ++ line_of e
lines_push elements e =
    flat_map-append line_of elements (e ∷ []) ∙ ap (λ l. lines_of elements ++ l) (append-nil (line_of e))

whole_push : (read held rest : List ℕ) (texts : List (List ℕ)) (text : List ℕ)
    → read ≡ flat_map packet_frame texts ++ held → held ≡ packet_frame text ++ rest
    → read ≡ flat_map packet_frame (texts ++ text ∷ []) ++ rest
whole_push read held rest texts text whole begins =
    whole ∙ ap (λ l. flat_map packet_frame texts ++ l) begins
    ∙ sym (append_assoc (flat_map packet_frame texts) (packet_frame text) rest)
    ∙ ap (λ l. l ++ rest) (sym (frames_push texts text))

place_push : (texts : List (List ℕ)) (text : List ℕ) (dropped : ℕ) → dropped ≡ place_behind texts
    → min (dropped + length (packet_frame text)) last_place ≡ place_behind (texts ++ text ∷ [])
place_push texts text dropped place =
    omega (
      arith,
      place,
      ap length (frames_push texts text),
      length-append (flat_map packet_frame texts)
          (packet_frame text),
    )

pub nothing_shown : (packets : Received) (told : Output) → packets.held ≡ [] → packets.dropped ≡ 0
    → HasShown [] packets told told
nothing_shown packets told none first = record {
  texts = [];
  each = tt;
  whole = sym none;
  place = first;
  elements = [];
  markup = tt;
  written = Appends-nil told;
}

-- the first packet that is held is shown
pub packet_shown : (packets after : Received) (text rest line : List ℕ) (old new : Output)
    → BeginsPacket packets.held text rest → IsLine text line → Appends old new line
    → after.held ≡ rest → after.dropped ≡ min (packets.dropped + length (packet_frame text)) last_place
    → ShowsOn packets after old new
packet_shown packets after text rest line old new begins is appends held dropped = λ read before shown. record {
  texts = shown.texts ++ text ∷ [];
  each = each_push shown.texts text shown.each begins.is_text;
  whole =
      whole_push read packets.held after.held shown.texts text shown.whole
      (begins.whole ∙ ap (λ l. packet_frame text ++ l) (sym held));
  place = dropped ∙ place_push shown.texts text packets.dropped shown.place;
  elements = shown.elements ++ is.element ∷ [];
  markup = markup_push shown.texts shown.elements text is.element shown.markup is.markup;
  written =
      subst (Appends before new) (ap (λ l. lines_of shown.elements ++ l) is.same
      ∙ sym (lines_push shown.elements is.element))
      (Appends-trans before old new (lines_of shown.elements) line shown.written appends);
}

-- ---- cut short

all_front : (before now : Output) (bytes : List ℕ) → Appends before now bytes → AppendsFront before now bytes
all_front before now bytes h =
    (length bytes, subst (Appends before now) (sym (take_all (length bytes) bytes (omega arith))) h)

then_front : (before old new : Output) (bytes more : List ℕ) → Appends before old bytes → AppendsFront old new more
    → AppendsFront before new (bytes ++ more)
then_front before old new bytes more h front = (
  length bytes + front.0,
  subst (Appends before new) (sym (take-append-add bytes more front.0))
      (Appends-trans before old new bytes (take front.0 more) h front.1),
)

-- a piece came that is not held
pub stopped_with : (read piece : List ℕ) (packets : Received) (before now : Output) → HasShown read packets before now
    → WasShowing (read ++ piece) before now
stopped_with read piece packets before now shown = record {
  texts = shown.texts;
  rest = packets.held ++ piece;
  each = shown.each;
  whole = ap (λ l. l ++ piece) shown.whole ∙ append_assoc (flat_map packet_frame shown.texts) packets.held piece;
  elements = shown.elements;
  markup = shown.markup;
  written = all_front before now (lines_of shown.elements) shown.written;
}

pub stopped : (packets : Received) (old new : Output) → new ≡ old → IsCut packets old new
stopped packets old new same = λ read before shown.
    subst (λ (l : List ℕ). WasShowing l before new) (append-nil read)
    (stopped_with read [] packets before new (subst (HasShown read packets before) (sym same) shown))

-- the line of the first packet that is held was put in part
pub packet_cut : (packets : Received) (text rest line : List ℕ) (old new : Output) → BeginsPacket packets.held text rest
    → IsLine text line → AppendsFront old new line → IsCut packets old new
packet_cut packets text rest line old new begins is front = λ read before shown. record {
  texts = shown.texts ++ text ∷ [];
  rest = rest;
  each = each_push shown.texts text shown.each begins.is_text;
  whole = whole_push read packets.held rest shown.texts text shown.whole begins.whole;
  elements = shown.elements ++ is.element ∷ [];
  markup = markup_push shown.texts shown.elements text is.element shown.markup is.markup;
  written =
      subst (AppendsFront before new) (ap (λ l. lines_of shown.elements ++ l) is.same
      ∙ sym (lines_push shown.elements is.element))
      (then_front before old new (lines_of shown.elements) line shown.written front);
}

-- what shows on, and then is cut
pub then_cut : (held left : Received) (old between new : Output) → ShowsOn held left old between
    → IsCut left between new
    → IsCut held old new
then_cut held left old between new shows cut = λ read before shown. cut read before (shows read before shown)

pub then_shows : (held left last : Received) (old between new : Output) → ShowsOn held left old between
    → ShowsOn left last between new → ShowsOn held last old new
then_shows held left last old between new shows more = λ read before shown. more read before (shows read before shown)

-- ---- a piece more

pub piece_held : (read piece : List ℕ) (packets after : Received) (before now : Output)
    → HasShown read packets before now
    → after.held ≡ packets.held ++ piece → after.dropped ≡ packets.dropped → HasShown (read ++ piece) after before now
piece_held read piece packets after before now shown held dropped = record {
  texts = shown.texts;
  each = shown.each;
  whole =
      ap (λ l. l ++ piece) shown.whole ∙ append_assoc (flat_map packet_frame shown.texts) packets.held piece
      ∙ ap (λ l. flat_map packet_frame shown.texts ++ l) (sym held);
  place = dropped ∙ shown.place;
  elements = shown.elements;
  markup = shown.markup;
  written = shown.written;
}

-- ---- what it comes to

-- the packets in front are the first packets
packets_front : (texts : List (List ℕ)) (rest : List ℕ) → AllByRecursion IsPacketText texts
    → packets_in (flat_map packet_frame texts ++ rest) ≡ texts ++ packets_in rest
packets_front [] rest each = refl
packets_front (text ∷ texts) rest each =
    ap packets_in (append_assoc (packet_frame text) (flat_map packet_frame texts) rest)
    ∙ packets-first text (flat_map packet_frame texts ++ rest) each.0
    ∙ ap (λ l. text ∷ l) (packets_front texts rest each.1)

module _ (read : List ℕ) (packets : Received) (before now : Output) (shown : HasShown read packets before now) where
  packets_are : packets_in read ≡ shown.texts ++ packets_in packets.held
  packets_are = ap packets_in shown.whole ∙ packets_front shown.texts packets.held shown.each

  -- where no packet is left, what is held is the rest
  rest_is : packets_in packets.held ≡ [] → rest_of_packets read ≡ packets.held
  rest_is none =
      let all : packets_in read ≡ shown.texts = packets_are ∙ ap (λ l. shown.texts ++ l) none
      ∙ append-nil shown.texts in
      ap (λ (l : List (List ℕ)). drop (length (flat_map packet_frame l)) read) all
      ∙ ap (drop (length (flat_map packet_frame shown.texts))) shown.whole
      ∙ drop-append_seam (flat_map packet_frame shown.texts) packets.held

  module _ (input out : Change) (consumed : Consumes input.told_before input.told read)
      (first : before ≡ out.told_before) (last : now ≡ out.told) where
    abbrev are_shown : Shown input
    are_shown = record {
      read = read;
      consumed = consumed;
      texts = shown.texts;
      others = packets_in packets.held;
      split = packets_are;
      elements = shown.elements;
      markup = shown.markup;
    }

    written : Appends out.told_before out.told (lines_of shown.elements)
    written =
        subst (λ (t : Output). Appends t out.told (lines_of shown.elements)) first
        (subst (λ (t : Output). Appends before t (lines_of shown.elements)) last shown.written)

    pub ends_whole : packets.held ≡ [] → IsAtEnd input.told → Shows (Ok tt) input out
    ends_whole none end =
        let no_packet : packets_in packets.held ≡ [] = ap packets_in none in
        record { shown = are_shown; written = written; ends = (no_packet, rest_is no_packet ∙ none, end) }

    pub ends_inside : packets.held ≢ [] → IsPartialPacket packets.held → IsAtEnd input.told
        → Shows (Err PeerEnd) input out
    ends_inside some partial end =
        let no_packet = partial-none packets.held partial in
        let rest = rest_is no_packet in
        record {
          shown = are_shown;
          written = written;
          ends =
              (no_packet, λ none. some (sym rest ∙ none), subst IsPartialPacket (sym rest) partial, end);
        }

    pub ends_failing : IsPartialPacket packets.held → Rose input.faults_before input.faults
        → Shows (Err ReadFault) input out
    ends_failing partial rose =
        let no_packet = partial-none packets.held partial in
        record {
          shown = are_shown;
          written = written;
          ends =
              (no_packet, subst IsPartialPacket (sym (rest_is no_packet)) partial, rose);
        }

    -- the next text is no markup
    ends_unmarked : (offset : ℕ) → HasNoMarkup packets offset → Shows (Err (BadPacket offset)) input out
    ends_unmarked offset bad =
        let next : packets_in packets.held ≡ bad.text ∷ packets_in bad.rest = ap packets_in bad.begins.whole
        ∙ packets-first bad.text bad.rest bad.begins.is_text in
        record {
          shown = are_shown;
          written = written;
          ends =
              subst (λ (l : List (List ℕ)). IsBadAt offset shown.texts l (rest_of_packets read)) (sym next)
              (bad.none, bad.place ∙ shown.place);
        }

    -- no packet begins the rest
    ends_refused : (offset : ℕ) → IsRefusedAt packets offset → Shows (Err (BadPacket offset)) input out
    ends_refused offset bad =
        let no_packet : packets_in packets.held ≡ [] = ap packets_in (sym (append-nil packets.held))
        ∙ refused-never packets.held bad.none [] in
        let same : packets ≡ record { held = rest_of_packets read; dropped = place_behind shown.texts } = λ i. record
        { held = sym (rest_is no_packet) i; dropped = shown.place i } in
        record {
          shown = are_shown;
          written = written;
          ends =
              subst (λ (l : List (List ℕ)). IsBadAt offset shown.texts l (rest_of_packets read)) (sym no_packet)
              (subst (λ (p : Received). IsRefusedAt p offset) same bad);
        }

-- it was cut short
pub ends_cut : (read : List ℕ) (before now : Output) → WasShowing read before now → (input out : Change)
    → Consumes input.told_before input.told read → before ≡ out.told_before → now ≡ out.told
    → IsCutShort input out
ends_cut read before now was input out consumed first last = record {
  shown = record {
    read = read;
    consumed = consumed;
    texts = was.texts;
    others = packets_in was.rest;
    split = ap packets_in was.whole ∙ packets_front was.texts was.rest was.each;
    elements = was.elements;
    markup = was.markup;
  };
  written =
      subst (λ (t : Output). AppendsFront t out.told (lines_of was.elements)) first
      (subst (λ (t : Output). AppendsFront before t (lines_of was.elements)) last was.written);
}

-- ---- why no more is shown

module _ (told0 told1 told2 : Output) (faults0 faults1 faults2 : ℕ) (later : faults0 ≤ faults1) where
  abbrev all : Change
  all = record { told_before = told0; told = told2; faults_before = faults0; faults = faults2 }

  abbrev last : Change
  last = record { told_before = told1; told = told2; faults_before = faults1; faults = faults2 }

  rose_since : Rose faults1 faults2 → Rose faults0 faults2
  rose_since rose = omega (arith, rose, later)

  -- the text of the first packet that is held was not shown
  pub text_failed : (why : ShowError) (held here : Received) (text rest : List ℕ) (start : ℕ)
      → ShowsOn held here told0 told1 → BeginsPacket here.held text rest → start ≡ here.dropped
      → TextFails why text start last → HeldFails why held here all
  text_failed (BadPacket offset) held here text rest start shows begins at f = (
    subst (ShowsOn held here told0) (sym f.2) shows,
    inl (record { text = text; rest = rest; begins = begins; none = f.0; place = f.1 ∙ at }),
  )
  text_failed OutFault held here text rest start shows begins at f = (
    rose_since f.0,
    then_cut held here told0 told1 told2 shows
        (packet_cut here text rest f.1.0 told1 told2 begins f.1.1 f.1.2),
  )
  text_failed Memory held here text rest start shows begins at f =
      then_cut held here told0 told1 told2 shows (stopped here told1 told2 f)
  text_failed PeerEnd held here text rest start shows begins at f = absurd f
  text_failed ReadFault held here text rest start shows begins at f = absurd f

  -- not all packets that were held were shown
  pub ends_held : (why : ShowError) (read : List ℕ) (packets left : Received) (input : Change)
      → Consumes input.told_before input.told read → HasShown read packets told0 told1
      → HeldFails why packets left last → Ends (Err why) input all
  ends_held (BadPacket offset) read packets left input consumed shown f = by f.1 where
    after : HasShown read left told0 told2
    after = f.0 read told0 shown

    by : HasNoMarkup left offset ⊎ IsRefusedAt left offset → Shows (Err (BadPacket offset)) input all
    by (inl bad) = ends_unmarked read left told0 told2 after input all consumed refl refl offset bad
    by (inr bad) = ends_refused read left told0 told2 after input all consumed refl refl offset bad
  ends_held OutFault read packets left input consumed shown f =
      (rose_since f.0, ends_cut read told0 told2 (f.1 read told0 shown) input all consumed refl refl)
  ends_held Memory read packets left input consumed shown f =
      ends_cut read told0 told2 (f read told0 shown) input all consumed refl refl
  ends_held PeerEnd read packets left input consumed shown f = absurd f
  ends_held ReadFault read packets left input consumed shown f = absurd f

  -- no piece came
  pub ends_piece : (why : ShowError) (read : List ℕ) (packets : Received) (out : Change) → Consumes told0 told1 read
      → HasShown read packets out.told_before out.told
      → IsPartialPacket packets.held → PieceFails why last → Ends (Err why) all out
  ends_piece ReadFault read packets out consumed shown partial f =
      ends_failing read packets out.told_before out.told shown all out
      (Consumes-kept told0 told1 told2 read consumed f.1) refl refl partial (rose_since f.0)
  ends_piece Memory read packets out consumed shown partial f =
      ends_cut (read ++ f.0) out.told_before out.told (stopped_with read f.0 packets out.told_before out.told shown) all
      out
      (Consumes-trans told0 told1 told2 read f.0 consumed f.1) refl refl
  ends_piece PeerEnd read packets out consumed shown partial f = absurd f
  ends_piece (BadPacket offset) read packets out consumed shown partial f = absurd f
  ends_piece OutFault read packets out consumed shown partial f = absurd f

-- every end leaves a front of the lines
pub cut_of : (why : ShowError) (input out : Change) → Ends (Err why) input out → IsCutShort input out
cut_of PeerEnd input out h =
    record { shown = h.shown; written = all_front out.told_before out.told (lines_of h.shown.elements) h.written }
cut_of (BadPacket offset) input out h =
    record { shown = h.shown; written = all_front out.told_before out.told (lines_of h.shown.elements) h.written }
cut_of ReadFault input out h =
    record { shown = h.shown; written = all_front out.told_before out.told (lines_of h.shown.elements) h.written }
cut_of OutFault input out h = h.1
cut_of Memory input out h = h
