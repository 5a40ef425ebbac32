-- The last line of a tape, and what is left where it was not put.
use Rattle.std.proofs.Common.{◌≡◌, ℕ, ◌-◌, Bool, true, false, List, [], ◌++◌, length, Option, Some, None, refl, sym, ap, ◌∙◌, subst, append-nil, inl, arith}
use Rattle.std.specs.Prelude.{if◌then◌else◌}
use Rattle.std.proofs.KnownBytes.{Appends-trans}
use Rattle.std.specs.Io.KnownBytes.{Appends, Consumes}
use Rattle.std.specs.List.{flat_map}
use Rattle.dp_conversation.specs.Folds.{Reply}
use Rattle.dp_conversation.specs.Growth.{served}
use Rattle.dp_conversation.proofs.FrontLaws.{front_after}
use Rattle.dp_outside.specs.Causes.{Rose}
use Rattle.dp_outside.specs.Changes.{Change}
use Rattle.dp_outside.specs.Streams.{AppendsFront}
use Rattle.dp_records.specs.declared.sessions.Over.{Over}
use Rattle.dp_records.specs.declared.sessions.Over.TheVariants.{Open}
use Rattle.dp_records.specs.declared.tape_end.TapeEnd.{TapeEnd}
use Rattle.dp_records.specs.declared.tape_end.TapeEnd.TheVariants.{WriteFault, Memory as OutOfMemory}
use Rattle.dp_records.specs.declared.tapes.Stop.TheVariants.{Finished}
use Rattle.dp_records.specs.declared.tapes.Taping.{Taping}
use Rattle.dp_records.specs.declared.tapes.Unput.{Unput}
use Rattle.dp_records.specs.declared.tapes.Unput.TheVariants.{Failed, Memory}
use Rattle.dp_records.specs.Behaviours.{Behaviour, behaviour_of}
use Rattle.dp_records.specs.Records.{end_line, given, line_of, own, sent}
use Rattle.dp_state.specs.Statuses.{status}
use Rattle.dp_records.specs.Statuses.{bad_status, is_status}
use Rattle.dp_records.specs.Tapes.{EndsTape, HasFront, HasLines, IsEnded, IsLeftOpen, IsOver, IsTape, Tapes}
use Rattle.dp_records.specs.inner.Audits.{sends}
use Rattle.dp_records.specs.inner.Tapings.{IsCut, IsTaping, PutFront, PutSome, StopsReading, TellSome, Unputs}
use Rattle.dp_records.specs.inner.Turns.{end_of, is_bad}
use Rattle.dp_records.proofs.EndLaws.{ended_so, is_tape, over_is, status_so}
use Rattle.dp_records.proofs.TapeLaws.{cut_none, lines_put, put_cut, put_on, throughout_none}
use Rattle.dp_state.specs.declared.moments.Outcome.{Outcome}
use Rattle.dp_wire.proofs.NextLaws.{none_partial}

ok_status : (bad : Bool) (outcome : Option Outcome) → is_status (status outcome) ≡ true
    → is_status (if bad then bad_status else status outcome) ≡ true
ok_status true outcome is = refl
ok_status false outcome is = is

module _ {S E : Type 0} (step : S → List ℕ → Reply S E) (rest_after : Option E → S → List ℕ)
    (ending_after : Option E → S → Option Outcome) (start : S) (init read : List ℕ) where
  abbrev behaviour : Behaviour
  behaviour = behaviour_of step rest_after ending_after start init

  -- ---- no last line

  pub cut_lines : (sink : Change) → IsCut step start init read sink.told_before sink.told → HasLines behaviour read sink
  cut_lines sink cut = record {
    text = flat_map line_of cut.entries;
    written = cut.written;
    lines = record {
      entries = cut.entries;
      are = cut.are;
      whole = refl;
      throughout = cut.throughout;
      front = cut.front;
    };
  }

  pub unput_lines : (why : Unput) (sink : Change) → HasLines behaviour read sink → Unputs why behaviour read sink
  unput_lines Failed sink lines = inl lines
  unput_lines Memory sink lines = lines

  module _ (over : Over E) (tape : Taping S) (sink : Change) (old : Option (List ℕ))
      (h : IsTaping step start init over read tape sink.told_before old) where
    pub unput_none : (why : Unput) → old ≡ sink.told → Unputs why behaviour read sink
    unput_none why same =
        unput_lines why sink (cut_lines sink
        (subst (IsCut step start init read sink.told_before) same
        (cut_none step start init read tape.sent.items tape.own.items sink.told_before old h.put)))

    pub unput_front : (why : Unput) (other : List ℕ) → PutFront tape.sent.items other old sink.told
        → Unputs why behaviour read sink
    unput_front why other p =
        unput_lines why sink (cut_lines sink
        (put_cut step start init read tape.sent.items tape.own.items other sink.told_before old sink.told h.put p))

  -- how a tape ends of which not all was put
  pub ends_unput : (why : Unput) (end : TapeEnd) (source sink : Change) → (why ≡ Failed → end ≡ WriteFault)
      → (why ≡ Memory → end ≡ OutOfMemory) → Unputs why behaviour read sink
      → (why ≡ Failed → Rose sink.faults_before sink.faults)
      → EndsTape end behaviour (served step start read) read source sink
  ends_unput Failed end source sink failed memory unput rose =
      subst (λ (e : TapeEnd). EndsTape e behaviour (served step start read) read source sink) (sym (failed refl))
      (unput, rose refl)
  ends_unput Memory end source sink failed memory unput rose =
      subst (λ (e : TapeEnd). EndsTape e behaviour (served step start read) read source sink) (sym (memory refl)) unput

  -- all was put, and the session could go on
  pub left_open : (tape : Taping S) (sink : Change) (old : Option (List ℕ))
      → IsTaping step start init Open read tape sink.told_before old
      → PutSome tape.sent.items tape.own.items [] [] old sink.told
      → IsLeftOpen behaviour (served step start read) read sink
  left_open tape sink old h p =
      let all = put_on step start init read tape.sent.items tape.own.items [] [] sink.told_before old sink.told h.put
      p in
      record {
        goes_on = (h.stops.0, h.stops.2);
        text = flat_map line_of all.entries;
        written = all.written;
        lines = record {
          lines = record {
            entries = all.entries;
            are = all.reported.are;
            whole = refl;
            throughout = all.reported.throughout;
            front = ([], sym all.reported.all_given ∙ sym (append-nil (given all.entries)));
          };
          all_given = all.reported.all_given;
          all_sent = sym (all.reported.sent_reported ∙ append-nil (sent all.entries));
          all_own = sym (all.own_reported ∙ append-nil (own all.entries));
        };
      }

  -- ---- the last line

  module _ (over : Over E) (tape : Taping S) (old mid : Option (List ℕ)) (sink : Change)
      (h : IsTaping step start init over read tape sink.told_before old) (bad : Bool) (ended : Option E)
      (rest own_left : List ℕ) (outcome : Option Outcome) (s : ℕ) (bad_is : bad ≡ is_bad over)
      (end_is : ended ≡ end_of over)
      (rest_is : rest ≡ rest_after ended tape.talk.session)
      (outcome_is : outcome ≡ ending_after ended tape.talk.session)
      (ok : is_status (status outcome) ≡ true) (s_is : s ≡ if bad then bad_status else status outcome)
      (own_is : own_left ≡ tape.own.items ++ rest) (p : PutSome tape.sent.items own_left [] [] old mid) where
    abbrev reply : Reply S E
    reply = served step start read

    -- how a command has ended it
    ended_is : ended ≡ reply.ended
    ended_is = ended_so step rest_after ending_after start init read over tape.talk.held.held ended end_is h.stops

    pub outcome_so : outcome ≡ behaviour.ending read
    outcome_so = outcome_is ∙ (λ i. ending_after (ended_is i) (h.is_state i))

    abbrev text : List ℕ
    text = flat_map line_of (h.put.entries ++ p.entries) ++ end_line s

    tape_so : IsTape behaviour read text s
    tape_so =
        is_tape step rest_after ending_after start init read tape.sent.items tape.own.items rest h.put.entries p.entries
        s h.put.reported h.put.own_reported
        (subst (λ (l : List ℕ). TellSome tape.sent.items l p.entries [] []) own_is p.tell)
        (rest_is ∙ (λ i. rest_after (ended_is i) (h.is_state i)))
        (status_so step rest_after ending_after start init read over tape.talk.session tape.talk.held.held bad ended
        outcome s h.is_state h.stops bad_is end_is outcome_is s_is)
        (ap (λ n. is_status n) s_is ∙ ok_status bad outcome ok)

    lines_so : Appends sink.told_before mid (flat_map line_of (h.put.entries ++ p.entries))
    lines_so = lines_put sink.told_before old mid h.put.entries p.entries h.put.written p.written

    pub closed_front : AppendsFront mid sink.told (end_line s) → HasFront behaviour read sink
    closed_front written = record {
      text = text;
      status = s;
      written = front_after sink.told_before mid sink.told (flat_map line_of (h.put.entries ++ p.entries)) (end_line s)
          lines_so written;
      tape = tape_so;
    }

    pub closed : (count offset : ℕ) (at : Option ℕ) (from : Change)
        → StopsReading step start init (Finished over count) read from
        → offset ≡ count - length tape.talk.held.held → at ≡ (if bad then Some offset else None)
        → Appends mid sink.told (end_line s)
        → IsEnded behaviour reply (record { status = s; bad = at; outcome = outcome }) read from sink
    closed count offset at from stops offset_is at_is written = record {
      over =
          subst (λ (o : Option ℕ). IsOver o reply read from)
          (sym (at_is ∙ (λ i. if bad_is i then Some offset else None)))
          (over_is step start init over read tape.talk.held.held count offset from h.stops h.is_left stops offset_is);
      outcome = outcome_so;
      text = text;
      written = Appends-trans sink.told_before mid sink.told (flat_map line_of (h.put.entries ++ p.entries))
          (end_line s)
          lines_so written;
      tape = tape_so;
    }

-- nothing was read, and nothing put
pub taped_none : {S E : Type 0} (step : S → List ℕ → Reply S E) (rest_after : Option E → S → List ℕ)
    (ending_after : Option E → S → Option Outcome) (start : S) (init : List ℕ) (source sink : Change)
    → Consumes source.told_before source.told [] → Appends sink.told_before sink.told []
    → Tapes step start (behaviour_of step rest_after ending_after start init) OutOfMemory source sink
taped_none step rest_after ending_after start init source sink consumed written = record {
  read = [];
  within = omega arith;
  up_to = record {
    front = [];
    piece = [];
    whole = refl;
    short = omega arith;
    goes_on = refl;
    partial = none_partial [] refl (omega arith);
  };
  consumed = consumed;
  ends = record {
    text = [];
    written = (0, written);
    lines = record {
      entries = [];
      are = record { each = tt; within = omega arith };
      whole = refl;
      throughout = throughout_none (sends step start init) (sends step start init [], refl);
      front = ([], refl);
    };
  };
}
