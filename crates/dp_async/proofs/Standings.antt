-- One step after the other of a session that listens, and what its objects tell then.
use Rattle.std.proofs.Common.{◌≡◌, ◌≢◌, ℕ, ◌+◌, ◌≤◌, Bool, true, false, List, [], ◌∷◌, ◌++◌, length, Option, Some, None, refl, sym, ap, subst, ◌∙◌, append_assoc, append-nil, length-append, arith, inl, inr}
use Rattle.std.proofs.lemmas.Bool.Decides.{nat_tests}
use Rattle.std.proofs.lemmas.List.Concat.{flat_map-append}
use Rattle.std.proofs.KnownBytes.{Appends-nil, Appends-trans, Consumes-nil, Consumes-trans}
use Rattle.std.specs.List.{flat_map}
use Rattle.std.specs.Io.KnownBytes.{Appends}
use Rattle.std.specs.Prelude.{◌==◌, is_none}
use Rattle.dp_outside.specs.Changes.{Change}
use Rattle.dp_outside.specs.Streams.{AppendsFront}
use Rattle.dp_command.specs.Lines.{line_of}
use Rattle.dp_wire.specs.Frames.{BeginsCommand, packet_frame}
use Rattle.dp_conversation.specs.declared.link.Fault.{Fault}
use Rattle.dp_conversation.specs.declared.link.Fault.TheVariants.{Write, Out, Memory}
use Rattle.dp_conversation.specs.declared.responder.Answer.{Answer}
use Rattle.dp_conversation.specs.Deliveries.{CutsAnswer, SendFault}
use Rattle.dp_conversation.proofs.FrontLaws.{front_after, front_all}
use Rattle.dp_engine.specs.declared.passes.Going.{Going}
use Rattle.dp_engine.specs.declared.session.SessionEnd.{SessionEnd}
use Rattle.dp_engine.specs.Responses.{response_text}
use Rattle.dp_engine.specs.Session.{State}
use Rattle.dp_packet.specs.Parts.{Text}
use Rattle.dp_tree.specs.declared.bundle.Bundle.{Bundle}
use Rattle.dp_async.specs.declared.answers.RunningAnswer.{RunningAnswer}
use Rattle.dp_async.specs.declared.arrival.Arrival.{Arrival}
use Rattle.dp_async.specs.Heard.{Done, Heard, HearsBreak, TellsStatus, GoesOn, Situation, bytes_of, nothing, on_its_way, stage_after, standing, with_look}
use Rattle.dp_async.specs.Listens.{break_refusal, break_response, running_response}
use Rattle.dp_async.specs.Served.{HeardUpTo, Input, IsLater, Reads, ends_empty}
use Rattle.dp_async.specs.inner.Standing.{AreLater, IsCut, IsCutBy, IsRunningAnswer, Objects, Start, IsAt, Agrees, with_answer, with_input, with_link, with_sinks, with_text}

-- ---- lists of arrivals

pub bytes_more : (log : List Arrival) (a : Arrival) → bytes_of (log ++ a ∷ []) ≡ bytes_of log ++ a.bytes
bytes_more log a =
    flat_map-append (λ (b : Arrival). b.bytes) log (a ∷ [])
    ∙ ap (λ (l : List ℕ). bytes_of log ++ l) (append-nil a.bytes)

-- only the last arrival matters
pub ends_more : (log : List Arrival) (a : Arrival) → ends_empty (log ++ a ∷ []) ≡ (length a.bytes == 0)
ends_more [] a = refl
ends_more (b ∷ []) a = refl
ends_more (b ∷ c ∷ log) a = ends_more (c ∷ log) a

pub some_bytes : (bytes : List ℕ) → bytes ≢ [] → (length bytes == 0) ≡ false
some_bytes [] some = absurd (some refl)
some_bytes (b ∷ bytes) some = grind (arith, nat_tests)

pub reads_on : (log : List Arrival) (a : Arrival) → a.bytes ≢ [] → ends_empty (log ++ a ∷ []) ≡ false
reads_on log a some = ends_more log a ∙ some_bytes a.bytes some

pub reads_no_more : (log : List Arrival) (a : Arrival) → a.bytes ≡ [] → ends_empty (log ++ a ∷ []) ≡ true
reads_no_more log a none = ends_more log a ∙ ap (λ (l : List ℕ). length l == 0) none

pub length_more : (log : List Arrival) (a : Arrival)
    → length (bytes_of (log ++ a ∷ [])) ≡ length (bytes_of log) + length a.bytes
length_more log a = ap length (bytes_more log a) ∙ length-append (bytes_of log) a.bytes

-- ---- packets

pub packets_more : (first : List ℕ) (packets more : List Text)
    → (first ++ flat_map packet_frame packets) ++ flat_map packet_frame more
    ≡ first ++ flat_map packet_frame (packets ++ more)
packets_more first packets more =
    append_assoc first (flat_map packet_frame packets) (flat_map packet_frame more)
    ∙ ap (λ (l : List ℕ). first ++ l) (sym (flat_map-append packet_frame packets more))

pub packet_more : (first : List ℕ) (packets : List Text) (text : Text)
    → (first ++ flat_map packet_frame packets) ++ packet_frame text
    ≡ first ++ flat_map packet_frame (packets ++ text ∷ [])
packet_more first packets text =
    ap (λ (l : List ℕ). (first ++ flat_map packet_frame packets) ++ l) (sym (append-nil (packet_frame text)))
    ∙ packets_more first packets (text ∷ [])

-- ---- what the objects tell

pub later_on : (a b c : Input) → IsLater a b → IsLater b c → IsLater a c
later_on a b c first second = (omega (arith, first.0, second.0), second.1 ∙ first.1)

pub reads_none : (input : Input) → Reads input input []
reads_none input = record { left = Consumes-nil input.left; given = Appends-nil input.given }

reads_then : (a b c : Input) (first second : List ℕ) → Reads a b first → Reads b c second
    → Reads a c (first ++ second)
reads_then a b c first second r s = record {
  left = Consumes-trans a.left b.left c.left first second r.left s.left;
  given = Appends-trans a.given b.given c.given first second r.given s.given;
}

module _ (start : Start) where
  -- the first packet was sent
  pub agrees_first : (taken : Option (List ℕ)) (faults : ℕ) → Appends start.before.taken taken start.first
      → start.before.faults ≤ faults → Agrees start [] nothing (with_link taken faults start.before)
  agrees_first taken faults sent later = record {
    read = reads_none start.before.input;
    sent = subst (Appends start.before.taken taken) (sym (append-nil start.first)) sent;
    printed = Appends-nil start.before.printed;
    looked = omega arith;
    later = record { breaks = (omega arith, refl); faults = later; fails = omega arith };
  }

  module _ (log : List Arrival) (done : Done) (o : Objects) (agrees : Agrees start log done o) where
    -- a packet more
    pub agrees_sent : (text : Text) (taken : Option (List ℕ)) (faults : ℕ)
        → Appends o.taken taken (packet_frame text) → o.faults ≤ faults
        → Agrees start log (with_text text done) (with_link taken faults o)
    agrees_sent text taken faults sent later = record {
      read = agrees.read;
      sent =
          subst (Appends start.before.taken taken) (packet_more start.first done.packets text)
          (Appends-trans start.before.taken o.taken taken _ _ agrees.sent sent);
      printed = agrees.printed;
      looked = agrees.looked;
      later =
          record {
            breaks = agrees.later.breaks;
            faults = omega (arith, agrees.later.faults, later);
            fails = agrees.later.fails;
          };
    }

    -- an answer more
    pub agrees_delivered : (answer : Answer SessionEnd) (taken : Option (List ℕ)) (faults : ℕ)
        (printed : Option (List ℕ)) (fails : ℕ)
        → Appends o.taken taken (flat_map packet_frame answer.packets)
        → Appends o.printed printed answer.program → o.faults ≤ faults → o.fails ≤ fails
        → Agrees start log (with_answer answer done) (with_sinks taken faults printed fails o)
    agrees_delivered answer taken faults printed fails sent put later later_out = record {
      read = agrees.read;
      sent =
          subst (Appends start.before.taken taken) (packets_more start.first done.packets answer.packets)
          (Appends-trans start.before.taken o.taken taken _ _ agrees.sent sent);
      printed = Appends-trans start.before.printed o.printed printed done.program answer.program agrees.printed put;
      looked = agrees.looked;
      later =
          record {
            breaks = agrees.later.breaks;
            faults = omega (arith, agrees.later.faults, later);
            fails = omega (arith, agrees.later.fails, later_out);
          };
    }

    -- an arrival more
    read_more : (a : Arrival) (input : Input) → Reads o.input input a.bytes
        → Reads start.before.input input (bytes_of (log ++ a ∷ []))
    read_more a input read =
        subst (Reads start.before.input input) (sym (bytes_more log a))
        (reads_then start.before.input o.input input (bytes_of log) a.bytes agrees.read read)

    read_none : (input : Input) → Reads o.input input [] → Reads start.before.input input (bytes_of log)
    read_none input read =
        subst (Reads start.before.input input) (append-nil (bytes_of log))
        (reads_then start.before.input o.input input (bytes_of log) [] agrees.read read)

    later_input : (input : Input) → IsLater o.input input → AreLater start.before (with_input input o)
    later_input input later = record {
      breaks = later_on start.before.input o.input input agrees.later.breaks later;
      faults = agrees.later.faults;
      fails = agrees.later.fails;
    }

    -- a look that found nothing, one that found something, and a wait
    pub agrees_looked : (input : Input) → Reads o.input input [] → IsLater o.input input
        → input.looks ≡ o.input.looks + 1 → Agrees start log (with_look done) (with_input input o)
    agrees_looked input read later one = record {
      read = read_none input read;
      sent = agrees.sent;
      printed = agrees.printed;
      looked = omega (arith, agrees.looked, one);
      later = later_input input later;
    }

    pub agrees_found : (a : Arrival) (input : Input) → Reads o.input input a.bytes → IsLater o.input input
        → input.looks ≡ o.input.looks + 1
        → Agrees start (log ++ a ∷ []) (with_look done) (with_input input o)
    agrees_found a input read later one = record {
      read = read_more a input read;
      sent = agrees.sent;
      printed = agrees.printed;
      looked = omega (arith, agrees.looked, one);
      later = later_input input later;
    }

    pub agrees_waited : (a : Arrival) (input : Input) → Reads o.input input a.bytes → IsLater o.input input
        → input.looks ≡ o.input.looks → Agrees start (log ++ a ∷ []) done (with_input input o)
    agrees_waited a input read later same = record {
      read = read_more a input read;
      sent = agrees.sent;
      printed = agrees.printed;
      looked = same ∙ agrees.looked;
      later = later_input input later;
    }

    -- ---- a fault

    -- the packet of this text was cut
    pub cut_send : (text : Text) (state : State) (taken : Option (List ℕ)) (faults : ℕ) (fault : Fault SessionEnd)
        (sink : Change) → sink.faults_before ≡ o.faults → sink.faults ≡ faults
        → HeardUpTo start.bundle start.bound log (with_text text done) None state
        → AppendsFront o.taken taken (packet_frame text) → o.faults ≤ faults
        → SendFault fault sink
        → IsCut start fault log state (with_link taken faults o)
    cut_send text state taken faults fault sink was is heard sent later why = record {
      front = log;
      behind = [];
      first = sym (append-nil log);
      done = with_text text done;
      ended = None;
      reached = state;
      heard = heard;
      sent =
          subst (AppendsFront start.before.taken taken) (packet_more start.first done.packets text)
          (front_after start.before.taken o.taken taken _ _ agrees.sent sent);
      later =
          record {
            breaks = agrees.later.breaks;
            faults = omega (arith, agrees.later.faults, later);
            fails = agrees.later.fails;
          };
      by = by fault why;
    } where
      by : (f : Fault SessionEnd) → SendFault f sink
          → IsCutBy f start log (with_text text done) None state state (with_link taken faults o)
      by (Write end) why = (
        omega (arith, agrees.later.faults, why.0, was, is),
        agrees.read,
        why.1,
        refl,
        agrees.printed,
      )
      by Out why = absurd why
      by Memory why = front_all start.before.printed o.printed done.program agrees.printed

    -- an answer was cut
    pub cut_delivery : (answer : Answer SessionEnd) (state : State) (fault : Fault SessionEnd) (sink out : Change)
        → sink.told_before ≡ o.taken → sink.faults_before ≡ o.faults
        → out.told_before ≡ o.printed → out.faults_before ≡ o.fails
        → HeardUpTo start.bundle start.bound log (with_answer answer done) answer.ended state
        → sink.faults_before ≤ sink.faults → out.faults_before ≤ out.faults
        → CutsAnswer answer fault sink out
        → IsCut start fault log state (with_sinks sink.told sink.faults out.told out.faults o)
    cut_delivery answer state fault sink out taken faults printed fails heard later later_out cut = record {
      front = log;
      behind = [];
      first = sym (append-nil log);
      done = with_answer answer done;
      ended = answer.ended;
      reached = state;
      heard = heard;
      sent =
          subst (AppendsFront start.before.taken sink.told) (packets_more start.first done.packets answer.packets)
          (front_after start.before.taken o.taken sink.told _ _ agrees.sent
          (subst (λ (t : Option (List ℕ)). AppendsFront t sink.told (flat_map packet_frame answer.packets)) taken
          (cut.sent.0, cut.sent.2)));
      later =
          record {
            breaks = agrees.later.breaks;
            faults = omega (arith, agrees.later.faults, later, faults);
            fails = omega (arith, agrees.later.fails, later_out, fails);
          };
      by = by fault cut;
    } where
      whole : Appends out.told_before out.told answer.program
          → Appends start.before.printed out.told (done.program ++ answer.program)
      whole put =
          Appends-trans start.before.printed o.printed out.told done.program answer.program agrees.printed
          (subst (λ (t : Option (List ℕ)). Appends t out.told answer.program) printed put)

      by : (f : Fault SessionEnd) → CutsAnswer answer f sink out
          → IsCutBy f start log (with_answer answer done) answer.ended state state
          (with_sinks sink.told sink.faults out.told out.faults o)
      by (Write end) cut = (
        omega (arith, agrees.later.faults, cut.by.0, faults),
        agrees.read,
        cut.by.1,
        refl,
        whole cut.by.2,
      )
      by Out cut = (
        omega (arith, agrees.later.fails, cut.by.0, fails),
        agrees.read,
        front_after start.before.printed o.printed out.told done.program answer.program agrees.printed
            (subst (λ (t : Option (List ℕ)). AppendsFront t out.told answer.program) printed
            (cut.by.1.0, cut.by.1.2)),
      )
      by Memory cut =
          front_all start.before.printed out.told (done.program ++ answer.program) (whole cut.by)

-- memory ran out where nothing was being sent
pub cut_short : (start : Start) (log : List Arrival) (s : Situation) (count : ℕ) (o now : Objects)
    (logged : List Arrival) (state : State) → IsAt start log s count o
    → (more : List Arrival) × (logged ≡ log ++ more) → now.taken ≡ o.taken → now.printed ≡ o.printed
    → AreLater start.before now → IsCut start Memory logged state now
cut_short start log s count o now logged state stands grows taken printed later = record {
  front = log;
  behind = grows.0;
  first = grows.1;
  done = stands.done;
  ended = None;
  reached = s.state;
  heard = inl (s, stands.heard, refl, refl);
  sent =
      subst (λ (t : Option (List ℕ)). AppendsFront start.before.taken t (start.first ++ flat_map packet_frame
      stands.done.packets)) (sym taken)
      (front_all start.before.taken o.taken _ stands.agrees.sent);
  later = later;
  by =
      subst (λ (t : Option (List ℕ)). AppendsFront start.before.printed t stands.done.program) (sym printed)
      (front_all start.before.printed o.printed stands.done.program stands.agrees.printed);
}

-- ---- what a running program hears

pub heard_told : (bundle : Bundle) (bound : ℕ) (log : List Arrival) (done : Done) (going : Going) (state : State)
    (moments : ℕ) (held line rest : List ℕ) (told : RunningAnswer)
    → Heard bundle bound log done (standing (on_its_way going GoesOn) state moments held)
    → BeginsCommand held line rest → IsRunningAnswer (line_of line) (Some told)
    → Heard bundle bound log (with_text told.text done)
    (standing (on_its_way going (stage_after told.stops)) state moments rest)
heard_told bundle bound log done going state moments held line rest told h begins is = by is where
  to : (text : Text) (stops : Bool) → told.text ≡ text → told.stops ≡ stops
      → Heard bundle bound log (with_text text done)
      (standing (on_its_way going (stage_after stops)) state moments rest)
      → Heard bundle bound log (with_text told.text done)
      (standing (on_its_way going (stage_after told.stops)) state moments rest)
  to text stops e f after =
      subst (λ (t : Text). Heard bundle bound log (with_text t done)
      (standing (on_its_way going (stage_after told.stops)) state moments rest)) (sym e)
      (subst (λ (b : Bool). Heard bundle bound log (with_text text done)
      (standing (on_its_way going (stage_after b)) state moments rest)) (sym f) after)

  by : IsRunningAnswer (line_of line) (Some told)
      → Heard bundle bound log (with_text told.text done)
      (standing (on_its_way going (stage_after told.stops)) state moments rest)
  by (inl p) =
      to (response_text (break_response true (line_of line))) (is_none (break_refusal true (line_of line))) p.1 p.2
      (HearsBreak going h line rest begins p.0)
  by (inr p) =
      to (response_text (running_response (line_of line))) false p.2 p.3
      (TellsStatus going h line rest begins p.0 p.1)
