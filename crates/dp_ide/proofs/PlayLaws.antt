-- How far the player has come, one packet and one instruction at a time, and what it comes to.
use Rattle.std.proofs.Common.{◌≡◌, ◌⊎◌, inl, inr, ℕ, suc, ◌+◌, ◌<◌, ◌≤◌, false, List, [], ◌∷◌, ◌++◌, length, take, drop, get_or, drop-cons, Option, refl, sym, ap, ◌∙◌, subst, append_assoc, append-nil, arith, codes}
use Rattle.std.specs.Prelude.{Ok, Err}
use Rattle.std.specs.List.{flat_map, AllByRecursion}
use Rattle.std.specs.Io.KnownBytes.{Appends, Consumes, IsAtEnd}
use Rattle.std.proofs.KnownBytes.{Appends-nil, Appends-trans, Consumes-nil, Consumes-trans}
use Rattle.std.proofs.lemmas.List.{take-append-drop}
use Rattle.std.proofs.lemmas.List.Concat.{flat_map-append}
use Rattle.std.proofs.Math.Seq.{take-append-add}
use Rattle.dp_markup.specs.Texts.{written}
use Rattle.dp_outside.specs.Causes.{Rose}
use Rattle.dp_outside.specs.Changes.{Change}
use Rattle.dp_outside.specs.Streams.{AppendsFront}
use Rattle.dp_wire.specs.Frames.{IsPacketText, command_frame, packet_frame, packets_in, rest_of_packets, BeginsPacket, IsPartialPacket}
use Rattle.dp_wire.specs.Places.{place_behind, IsRefusedAt}
use Rattle.dp_wire.specs.Received.{Received}
use Rattle.dp_wire.proofs.LengthLaws.{partial-none, refused-never}
use Rattle.dp_wire.proofs.PacketLaws.{packets-first}
use Rattle.dp_ide.specs.declared.errors.IdeError.{IdeError}
use Rattle.dp_ide.specs.declared.errors.IdeError.TheVariants.{BadScript, Differs, PeerEnd, BadPacket, ReadFault, WriteFault, OutFault, Memory}
use Rattle.dp_ide.specs.declared.heard.Heard.{Heard as Kept}
use Rattle.dp_ide.specs.declared.heard.Message.{Message}
use Rattle.dp_ide.specs.declared.instruction.Act.{Act}
use Rattle.dp_ide.specs.declared.instruction.Act.TheVariants.{Send, Attr, Code, Prop, Out, Print}
use Rattle.dp_ide.specs.declared.instruction.Instruction.{Instruction}
use Rattle.dp_ide.specs.Messages.{IsMessage, AreMessages, is_init}
use Rattle.dp_ide.specs.Instructions.{Heard, Does, Goes, Played, expected, sent, sent_by}
use Rattle.dp_ide.specs.Plays.{Progress, Comes, Waiting, IsUnfit, IsBadAt, Lacks, StopsAt, Ends, init, response}
use Rattle.dp_ide.proofs.AwaitLaws.{each_append, are_append, frames_then, packets_are, rest_is, rose_since, takes_none, up_to_more}
use Rattle.dp_ide.specs.inner.Progress.{heard_of, ComesFor, Takes, LacksNext, Stood, StoodUpTo, Performs, StopsHere, WaitsHere, PerformFails, EndsFrom, OpenFails, printed_line}

-- ---- instructions

goes_more : (ones : List Instruction) (one : Instruction) (before between after : Heard) (messages now : List Message)
    → Goes ones before messages between → Does one.act between now after
    → Goes (ones ++ one ∷ []) before (messages ++ now) after
goes_more [] one before between after messages now goes does = (
  now,
  [],
  after,
  ap (λ l. l ++ now) goes.0 ∙ sym (append-nil now),
  subst (λ (h : Heard). Does one.act h now after) goes.1 does,
  (refl, refl),
)
goes_more (first ∷ ones) one before between after messages now goes does = (
  goes.0,
  goes.1 ++ now,
  goes.2,
  ap (λ l. l ++ now) goes.3 ∙ append_assoc goes.0 goes.1 now,
  goes.4,
  goes_more ones one goes.2 between after goes.1 now goes.5 does,
)

played_more : (done : List Instruction) (one : Instruction) (heard after : Heard) (messages now : List Message)
    → Played done messages heard → Does one.act heard now after
    → Played (done ++ one ∷ []) (messages ++ now) after
played_more done one heard after messages now played does = record {
  init = played.init;
  later = played.later ++ now;
  whole = ap (λ l. l ++ now) played.whole;
  is = played.is;
  goes =
      goes_more done one (record { last = played.init; output = []; printed = [] }) heard after played.later now
      played.goes does;
}

stood_as : (read again : List ℕ) (done twice : List Instruction) (held : Received) (kept : Kept) (printed more : List ℕ)
    → read ≡ again → done ≡ twice → printed ≡ more
    → StoodUpTo read done held kept printed → StoodUpTo again twice held kept more
stood_as read again done twice held kept printed more r d p stood =
    subst (λ (l : List ℕ). StoodUpTo l twice held kept more) r (subst
    (λ (l : List Instruction). StoodUpTo read l held kept more) d
    (subst (λ (l : List ℕ). StoodUpTo read done held kept l) p stood))

abbrev stood_piece : (read piece : List ℕ) (done : List Instruction) (held : Received) (kept : Kept) (printed : List ℕ)
    → Stood read done held kept printed
    → Stood (read ++ piece) done (record { held = held.held ++ piece; dropped = held.dropped }) kept printed
stood_piece read piece done held kept printed stood = record {
  texts = stood.texts;
  each = stood.each;
  whole = ap (λ l. l ++ piece) stood.whole ∙ append_assoc (flat_map packet_frame stood.texts) held.held piece;
  place = stood.place;
  messages = stood.messages;
  are = stood.are;
  played = stood.played;
}

-- nothing was played yet
pub performs_none : (held : Received) (kept : Kept) (source sink out : Change) → source.told_before ≡ source.told
    → sink.told_before ≡ sink.told → out.told_before ≡ out.told
    → Performs [] held held kept kept source sink out
performs_none held kept source sink out reads sends prints = record {
  piece = [];
  consumed = subst (λ (t : Option (List ℕ)). Consumes source.told_before t []) reads (Consumes-nil source.told_before);
  said = [];
  sends = subst (λ (t : Option (List ℕ)). Appends sink.told_before t []) sends (Appends-nil sink.told_before);
  prints = subst (λ (t : Option (List ℕ)). Appends out.told_before t []) prints (Appends-nil out.told_before);
  performed =
      λ read printed done stood. stood_as read (read ++ []) done (done ++ []) held kept printed (printed ++ [])
      (sym (append-nil read)) (sym (append-nil done)) (sym (append-nil printed)) stood;
}

pub performs_one : (one : Instruction) (old new : Received) (before after : Kept) (source sink out : Change)
    (piece said : List ℕ) (texts : List (List ℕ)) (messages : List Message)
    → Consumes source.told_before source.told piece → Takes old new piece texts → ComesFor old.held piece texts
    → AreMessages texts messages
    → ((printed : List ℕ) → Does one.act (heard_of before printed) messages (heard_of after (printed ++ said)))
    → Appends sink.told_before sink.told (sent_by one.act) → Appends out.told_before out.told said
    → Performs (one ∷ []) old new before after source sink out
performs_one one old new before after source sink out piece said texts messages consumed takes wanted are does sends
    prints = record {
      piece = piece;
      consumed = consumed;
      said = said;
      sends = subst (Appends sink.told_before sink.told) (sym (append-nil (sent_by one.act))) sends;
      prints = prints;
      performed = λ read printed done before_it. let stood = before_it.stood in record {
        stood = record {
          texts = stood.texts ++ texts;
          each = each_append stood.texts texts stood.each takes.each;
          whole = frames_then read old.held piece new.held stood.texts texts stood.whole takes.whole;
          place = takes.place stood.texts stood.place;
          messages = stood.messages ++ messages;
          are = are_append stood.texts texts stood.messages messages stood.are are;
          played =
              played_more done one (heard_of before printed) (heard_of after (printed ++ said)) stood.messages messages
              stood.played (does printed);
        };
        up_to =
            up_to_more read piece old.held stood.texts texts stood.each stood.whole before_it.up_to wanted;
      };
    }

-- an instruction that awaits no packet and prints nothing
pub performs_quiet : (one : Instruction) (held : Received) (before after : Kept) (source sink out : Change)
    → source.told_before ≡ source.told → sink.told_before ≡ sink.told
    → out.told_before ≡ out.told → sent_by one.act ≡ []
    → ((printed : List ℕ) → Does one.act (heard_of before printed) [] (heard_of after printed))
    → Performs (one ∷ []) held held before after source sink out
performs_quiet one held before after source sink out reads sends prints nothing does =
    performs_one one held held before after source sink out [] [] [] []
    (subst (λ (t : Option (List ℕ)). Consumes source.told_before t []) reads (Consumes-nil source.told_before))
    (takes_none held) (inl refl) tt
    (λ printed. subst (λ (l : List ℕ). Does one.act (heard_of before printed) [] (heard_of after l))
    (sym (append-nil printed)) (does printed))
    (subst (λ (l : List ℕ). Appends sink.told_before sink.told l) (sym nothing)
    (subst (λ (t : Option (List ℕ)). Appends sink.told_before t []) sends (Appends-nil sink.told_before)))
    (subst (λ (t : Option (List ℕ)). Appends out.told_before t []) prints (Appends-nil out.told_before))

sent_append : (ones more : List Instruction) → sent (ones ++ more) ≡ sent ones ++ sent more
sent_append ones more = flat_map-append (λ (one : Instruction). sent_by one.act) ones more

pub performs_then : (ones more : List Instruction) (a b c : Received) (before between after : Kept)
    (source sink out source_2 sink_2 out_2 whole whole_sink whole_out : Change)
    → Performs ones a b before between source sink out → Performs more b c between after source_2 sink_2 out_2
    → whole.told_before ≡ source.told_before → source.told ≡ source_2.told_before → source_2.told ≡ whole.told
    → whole_sink.told_before ≡ sink.told_before → sink.told ≡ sink_2.told_before → sink_2.told ≡ whole_sink.told
    → whole_out.told_before ≡ out.told_before → out.told ≡ out_2.told_before → out_2.told ≡ whole_out.told
    → Performs (ones ++ more) a c before after whole whole_sink whole_out
performs_then ones more a b c before between after source sink out source_2 sink_2 out_2 whole whole_sink whole_out
    first then s0 s1 s2 k0 k1 k2 o0 o1 o2 = record {
      piece = first.piece ++ then.piece;
      consumed = Consumes-trans whole.told_before source_2.told_before whole.told first.piece then.piece
          (subst (λ (t : Option (List ℕ)). Consumes t source_2.told_before first.piece) (sym s0)
          (subst (λ (t : Option (List ℕ)). Consumes source.told_before t first.piece) s1 first.consumed))
          (subst (λ (t : Option (List ℕ)). Consumes source_2.told_before t then.piece) s2 then.consumed);
      said = first.said ++ then.said;
      sends = subst (Appends whole_sink.told_before whole_sink.told) (sym (sent_append ones more))
          (Appends-trans whole_sink.told_before sink_2.told_before whole_sink.told (sent ones) (sent more)
          (subst (λ (t : Option (List ℕ)). Appends t sink_2.told_before (sent ones)) (sym k0)
          (subst (λ (t : Option (List ℕ)). Appends sink.told_before t (sent ones)) k1 first.sends))
          (subst (λ (t : Option (List ℕ)). Appends sink_2.told_before t (sent more)) k2 then.sends));
      prints = Appends-trans whole_out.told_before out_2.told_before whole_out.told first.said then.said
          (subst (λ (t : Option (List ℕ)). Appends t out_2.told_before first.said) (sym o0)
          (subst (λ (t : Option (List ℕ)). Appends out.told_before t first.said) o1 first.prints))
          (subst (λ (t : Option (List ℕ)). Appends out_2.told_before t then.said) o2 then.prints);
      performed = λ read printed done stood.
          stood_as ((read ++ first.piece) ++ then.piece) (read ++ (first.piece ++ then.piece)) ((done ++ ones) ++ more)
          (done ++ (ones ++ more)) c after
          ((printed ++ first.said) ++ then.said) (printed ++ (first.said ++ then.said))
          (append_assoc read first.piece then.piece) (append_assoc done ones more)
          (append_assoc printed first.said then.said)
          (then.performed (read ++ first.piece) (printed ++ first.said) (done ++ ones)
          (first.performed read printed done stood));
    }

-- ---- what it comes to

abbrev progress_of : (script done left : List Instruction) (read : List ℕ) (held : Received) (kept : Kept)
    (printed : List ℕ) → script ≡ done ++ left → Stood read done held kept printed
    → Progress script read
progress_of script done left read held kept printed split stood = record {
  done = done;
  left = left;
  split = split;
  texts = stood.texts;
  others = packets_in held.held;
  came = packets_are read held.held stood.texts stood.each stood.whole;
  messages = stood.messages;
  are = stood.are;
  heard = heard_of kept printed;
  played = stood.played;
}

-- all instructions were played
pub ends_done : (script : List Instruction) (old new : Received) (before after : Kept) (source sink out : Change)
    → Performs script old new before after source sink out
    → EndsFrom script old before (Ok tt) source sink out
ends_done script old new before after source sink out performs = λ read told faults stood consumed later.
    let there = performs.performed read [] [] stood in record {
      read = read ++ performs.piece;
      consumed = Consumes-trans told source.told_before source.told read performs.piece consumed performs.consumed;
      how = inl (record {
        progress =
            progress_of script script [] (read ++ performs.piece) new after performs.said
            (sym (append-nil script)) there.stood;
        up_to = there.up_to;
        stops = (refl, record { sends = performs.sends; prints = performs.prints });
      });
    }

-- what lacks while a packet is awaited behind these
lacks_of : (why : IdeError) (w : Waiting) (read : List ℕ) (held : Received) (texts : List (List ℕ))
    (source whole : Change) → AllByRecursion IsPacketText texts
    → read ≡ flat_map packet_frame texts ++ held.held → held.dropped ≡ place_behind w.passed
    → w.others ≡ packets_in held.held
    → ((text : List ℕ) → ((message : Message) → IsMessage text message → ⊥) → IsUnfit w.awaited text)
    → whole.faults_before ≤ source.faults_before → source.told ≡ whole.told → source.faults ≡ whole.faults
    → LacksNext why held source → Lacks (Err why) w (rest_of_packets read) whole
lacks_of why w read held texts source whole each split place others unfit later told faults lacks = by why lacks where
  none_left : IsPartialPacket held.held → w.others ≡ []
  none_left partial = others ∙ partial-none held.held partial

  the_rest : IsPartialPacket held.held → rest_of_packets read ≡ held.held
  the_rest partial = rest_is read held.held texts each split (partial-none held.held partial)

  bad : (offset : ℕ) → LacksNext (BadPacket offset) held source
      → IsBadAt offset w.awaited w.passed w.others (rest_of_packets read)
  bad offset (inl (text, rest, begins, none, at)) =
      let next : w.others ≡ text
      ∷ packets_in rest = others ∙ ap packets_in begins.whole ∙ packets-first text rest begins.is_text in
      subst (λ (l : List (List ℕ)). IsBadAt offset w.awaited w.passed l (rest_of_packets read)) (sym next)
      (unfit text none, at ∙ place)
  bad offset (inr refused) =
      let no_packet : packets_in held.held ≡ [] = ap packets_in
      (sym (append-nil held.held)) ∙ refused-never held.held refused.none [] in
      let same : held ≡ record { held = rest_of_packets read; dropped = place_behind w.passed } = λ i. record
      { held = sym (rest_is read held.held texts each split no_packet) i; dropped = place i } in
      subst (λ (l : List (List ℕ)). IsBadAt offset w.awaited w.passed l (rest_of_packets read))
      (sym (others ∙ no_packet)) (subst (λ (r : Received). IsRefusedAt r offset) same refused)

  by : (why : IdeError) → LacksNext why held source → Lacks (Err why) w (rest_of_packets read) whole
  by PeerEnd lacks =
      (none_left lacks.0, subst IsPartialPacket (sym (the_rest lacks.0)) lacks.0, subst IsAtEnd told lacks.1)
  by ReadFault lacks = (
    none_left lacks.0,
    subst IsPartialPacket (sym (the_rest lacks.0)) lacks.0,
    subst (λ (n : ℕ). Rose whole.faults_before n) faults (rose_since whole.faults_before source.faults_before
        source.faults later lacks.1),
  )
  by (BadPacket offset) lacks = bad offset lacks
  by Memory lacks = tt
  by (BadScript line) lacks = absurd lacks
  by (Differs line wanted found) lacks = absurd lacks
  by WriteFault lacks = absurd lacks
  by OutFault lacks = absurd lacks

-- ---- where an instruction was not played

expected_printed : (act : Act) (kept : Kept) (printed : List ℕ)
    → expected act (heard_of kept printed) ≡ expected act (heard_of kept [])
expected_printed (Send line id) kept printed = refl
expected_printed (Attr name text) kept printed = refl
expected_printed (Code n) kept printed = refl
expected_printed (Prop name text) kept printed = refl
expected_printed (Out text) kept printed = refl
expected_printed Print kept printed = refl

front_then : (before between now : Option (List ℕ)) (bytes more : List ℕ) → Appends before between bytes
    → AppendsFront between now more → AppendsFront before now (bytes ++ more)
front_then before between now bytes more h front = (
  length bytes + front.0,
  subst (Appends before now) (sym (take-append-add bytes more front.0))
      (Appends-trans before between now bytes (take front.0 more) h front.1),
)

module _ (script done more : List Instruction) (one : Instruction) (split : script ≡ done ++ one ∷ more)
    (old here : Received) (before kept : Kept)
    (source sink out source_2 sink_2 out_2 : Change)
    (performs : Performs done old here before kept source sink out)
    (s1 : source.told ≡ source_2.told_before) (k1 : sink.told ≡ sink_2.told_before) (o1 : out.told ≡ out_2.told_before)
    (s_later : source.faults_before ≤ source_2.faults_before) (k_later : sink.faults_before ≤ sink_2.faults_before)
    (o_later : out.faults_before ≤ out_2.faults_before)
    (read : List ℕ) (told : Option (List ℕ)) (faults : ℕ) (stood : StoodUpTo read [] old before [])
    (consumed : Consumes told source.told_before read) (later : faults ≤ source.faults_before) where
  abbrev whole : Change
  whole = record { told_before = told; told = source_2.told; faults_before = faults; faults = source_2.faults }

  abbrev whole_sink : Change
  whole_sink =
      record {
        told_before = sink.told_before;
        told = sink_2.told;
        faults_before = sink.faults_before;
        faults =
            sink_2.faults;
      }

  abbrev whole_out : Change
  whole_out =
      record {
        told_before = out.told_before;
        told = out_2.told;
        faults_before = out.faults_before;
        faults =
            out_2.faults;
      }

  abbrev behind : StoodUpTo (read ++ performs.piece) done here kept performs.said
  behind = performs.performed read [] [] stood

  abbrev there : Stood (read ++ performs.piece) done here kept performs.said
  there = behind.stood

  consumed_here : Consumes told source_2.told_before (read ++ performs.piece)
  consumed_here =
      subst (λ (t : Option (List ℕ)). Consumes told t (read ++ performs.piece)) s1
      (Consumes-trans told source.told_before source.told read performs.piece consumed performs.consumed)

  sends_here : Appends sink.told_before sink_2.told_before (sent done)
  sends_here = subst (λ (t : Option (List ℕ)). Appends sink.told_before t (sent done)) k1 performs.sends

  prints_here : Appends out.told_before out_2.told_before performs.said
  prints_here = subst (λ (t : Option (List ℕ)). Appends out.told_before t performs.said) o1 performs.prints

  unsent : sink_2.told ≡ sink_2.told_before → Appends sink.told_before sink_2.told (sent done)
  unsent same = subst (λ (t : Option (List ℕ)). Appends sink.told_before t (sent done)) (sym same) sends_here

  unprinted : out_2.told ≡ out_2.told_before → Appends out.told_before out_2.told performs.said
  unprinted same = subst (λ (t : Option (List ℕ)). Appends out.told_before t performs.said) (sym same) prints_here

  sent_one : sent (done ++ one ∷ []) ≡ sent done ++ sent_by one.act
  sent_one = sent_append done (one ∷ []) ∙ ap (λ l. sent done ++ l) (append-nil (sent_by one.act))

  abbrev progress : Progress script (read ++ performs.piece)
  progress = progress_of script done (one ∷ more) (read ++ performs.piece) here kept performs.said split there

  abbrev comes : Comes progress one
  comes = record { more = more; is = refl }

  stops : (why : IdeError) → source_2.told ≡ source_2.told_before → StopsHere why one kept sink_2 out_2
      → Ends script (Err why) whole whole_sink whole_out
  stops why kept_source here_stops = record {
    read = read ++ performs.piece;
    consumed =
        subst (λ (t : Option (List ℕ)). Consumes told t (read ++ performs.piece)) (sym kept_source) consumed_here;
    how = inl (record { progress = progress; up_to = behind.up_to; stops = by why here_stops });
  } where
    by : (why : IdeError) → StopsHere why one kept sink_2 out_2 → StopsAt (Err why) progress whole_sink whole_out
    by (Differs line wanted found) s = (
      record {
        one = one;
        comes = comes;
        at = s.0.0;
        expects = expected_printed one.act kept performs.said ∙ s.0.1;
        differs = s.0.2;
      },
      record { sends = unsent s.1; prints = unprinted s.2 },
    )
    by WriteFault s = record {
      one = one;
      comes = comes;
      line = s.0;
      id = s.1;
      is = s.2;
      fault = rose_since sink.faults_before sink_2.faults_before sink_2.faults k_later s.3.0;
      sends =
          subst (AppendsFront sink.told_before sink_2.told) (ap (λ l. sent done ++ l)
          (ap sent_by (sym s.2)) ∙ sym sent_one)
          (front_then sink.told_before sink_2.told_before sink_2.told (sent done) (command_frame s.0) sends_here s.3.1);
      prints = unprinted s.4;
    }
    by OutFault s = record {
      one = one;
      comes = comes;
      is = s.0;
      fault = rose_since out.faults_before out_2.faults_before out_2.faults o_later s.1.0;
      sends = unsent s.2;
      prints =
          subst (AppendsFront out.told_before out_2.told) (sym
          (append_assoc performs.said (written kept.last.root) (codes "\n")))
          (front_then out.told_before out_2.told_before out_2.told performs.said (printed_line kept) prints_here s.1.1);
    }
    by Memory s = record { sends = unsent s.0; prints = unprinted s.1 }
    by PeerEnd s = absurd s
    by ReadFault s = absurd s
    by (BadPacket offset) s = absurd s
    by (BadScript line) s = absurd s

  waits : (why : IdeError) → WaitsHere why one here source_2 sink_2 out_2
      → Ends script (Err why) whole whole_sink whole_out
  waits why w =
      let f = w.fails in
      let all = (read ++ performs.piece) ++ f.piece in
      let at_piece : Received = record { held = here.held ++ f.piece; dropped = here.dropped } in
      let stood_here = stood_piece (read ++ performs.piece) f.piece done here kept performs.said there in
      let split_here : all ≡ flat_map packet_frame (there.texts ++ f.texts) ++ f.now.held =
      frames_then (read ++ performs.piece) here.held f.piece f.now.held there.texts f.texts there.whole f.takes.whole in
      let waiting : Waiting = record {
        awaited = response w.id;
        passed = there.texts ++ f.texts;
        others = packets_in f.now.held;
        reached = done ++ one ∷ [];
        printed = performs.said;
      } in record {
        read = all;
        consumed =
            Consumes-trans told source_2.told_before source_2.told
            (read ++ performs.piece) f.piece consumed_here f.consumed;
        how = inr (record {
          waiting = waiting;
          awaits = record {
            progress = progress_of script done (one ∷ more) all at_piece kept performs.said split stood_here;
            one = one;
            line = w.line;
            sends = w.is;
            comes = record { more = more; is = refl };
            since = f.texts;
            passed = refl;
            came = packets_are (here.held ++ f.piece) f.now.held f.texts f.takes.each f.takes.whole;
            messages = f.messages;
            are = f.are;
            none = f.none;
            reached = refl;
            printed = refl;
          };
          lacks =
              lacks_of why waiting all f.now (there.texts ++ f.texts) source_2 whole
              (each_append there.texts f.texts there.each f.takes.each) split_here
              (f.takes.place there.texts there.place) refl (λ text none. none)
              (omega (arith, later, s_later)) refl refl f.lacks;
          gives = record {
            sends =
                subst (Appends sink.told_before sink_2.told) (ap (λ l. sent done ++ l)
                (ap sent_by (sym w.is)) ∙ sym sent_one)
                (Appends-trans sink.told_before sink_2.told_before sink_2.told (sent done)
                (command_frame w.line) sends_here w.sends);
            prints = unprinted w.kept;
          };
        });
      }

  pub ends_failing : (why : IdeError) → PerformFails why one here kept source_2 sink_2 out_2
      → Ends script (Err why) whole whole_sink whole_out
  ends_failing why (inl s) = stops why s.1 s.0
  ends_failing why (inr w) = waits why w

abbrev at_first : List ℕ → Waiting
at_first read = record { awaited = init; passed = []; others = packets_in read; reached = []; printed = [] }

-- there is no init
pub ends_unopened : (script : List Instruction) (why : IdeError) (source sink out : Change) → OpenFails why source
    → sink.told_before ≡ sink.told → out.told_before ≡ out.told
    → Ends script (Err why) source sink out
ends_unopened script why source sink out fails sends prints = record {
  read = fails.read;
  consumed = fails.consumed;
  how = inr (record {
    waiting = at_first fails.read;
    awaits = record { none_passed = refl; came = refl; none_reached = refl; nothing = refl };
    lacks = by fails.lacks;
    gives = record {
      sends = subst (λ (t : Option (List ℕ)). Appends sink.told_before t []) sends (Appends-nil sink.told_before);
      prints = subst (λ (t : Option (List ℕ)). Appends out.told_before t []) prints (Appends-nil out.told_before);
    };
  });
} where
  first : 0 ≡ place_behind []
  first = omega arith

  by : (LacksNext why (record { held = fails.read; dropped = 0 }) source)
      ⊎ ((text : List ℕ) × (rest : List ℕ) × BeginsPacket fails.read text rest × (why ≡ BadPacket 0)
      × ((message : Message) → IsMessage text message → is_init message.packet ≡ false))
      → Lacks (Err why) (at_first fails.read) (rest_of_packets fails.read) source
  by (inl lacks) =
      lacks_of why (at_first fails.read) fails.read (record { held = fails.read; dropped = 0 })
      [] source source tt refl first refl (λ text none message is. absurd (none message is))
      (omega arith) refl refl lacks
  by (inr (text, rest, begins, is, none)) =
      let next : packets_in fails.read ≡ text
      ∷ packets_in rest = ap packets_in begins.whole ∙ packets-first text rest begins.is_text in
      subst (λ (e : IdeError). Lacks (Err e) (at_first fails.read) (rest_of_packets fails.read) source) (sym is)
      (subst (λ (l : List (List ℕ)). IsBadAt 0 init [] l (rest_of_packets fails.read)) (sym next) (none, first))

-- what stands before an instruction, it, and what stands behind it
pub split_at : (script : List Instruction) (i : ℕ) (one : Instruction) → i < length script → one ≡ get_or script i one
    → script ≡ take i script ++ one ∷ drop (i + 1) script
split_at script i one less is =
    let on : i + 1 ≡ suc i = omega arith in
    sym (take-append-drop i script) ∙ ap (λ (l : List Instruction). take i script ++ l)
    (drop-cons script i one less ∙ (λ k. sym is k ∷ drop (sym on k) script))
