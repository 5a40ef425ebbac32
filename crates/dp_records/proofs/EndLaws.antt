-- How a session that is over ends, and the record of it.
use Rattle.std.proofs.Common.{◌≡◌, ℕ, ◌-◌, ◌≤◌, Bool, true, List, [], ◌∷◌, ◌++◌, length, map, Option, Some, None, refl, sym, ap, ◌∙◌, append_assoc, append-nil, inl, inr, arith, length-drop}
use Rattle.std.specs.Prelude.{if◌then◌else◌}
use Rattle.std.proofs.lemmas.Bool.{le-ltb, lt-ltb}
use Rattle.std.specs.List.{flat_map}
use Rattle.dp_conversation.specs.Folds.{Reply}
use Rattle.dp_conversation.specs.Growth.{served}
use Rattle.dp_outside.specs.Changes.{Change}
use Rattle.dp_records.specs.declared.entry.Entry.{Entry}
use Rattle.dp_records.specs.declared.sessions.Over.{Over}
use Rattle.dp_records.specs.declared.sessions.Over.TheVariants.{Ended, Open, Bad}
use Rattle.dp_records.specs.declared.tapes.Stop.TheVariants.{Finished}
use Rattle.dp_records.specs.Behaviours.{behaviour_of, is_left_off, status_by}
use Rattle.dp_records.specs.Records.{end_line, line_of, lines_in, own, sent}
use Rattle.dp_state.specs.Statuses.{status}
use Rattle.dp_records.specs.Statuses.{bad_status, is_status}
use Rattle.dp_records.specs.Tapes.{IsOver, IsTape}
use Rattle.dp_records.specs.inner.Audits.{sends}
use Rattle.dp_records.specs.inner.Tapings.{StopsReading, TellSome, Tells}
use Rattle.dp_records.specs.inner.Turns.{StopsBy, end_of, is_bad}
use Rattle.dp_records.proofs.LeftLaws.{partial_short, refused_long}
use Rattle.dp_records.proofs.LineLaws.{cut_first, end_ends, entries_first}
use Rattle.dp_records.proofs.TapeLaws.{own_append, tells_on}
use Rattle.dp_state.specs.declared.moments.Outcome.{Outcome}
use Rattle.dp_wire.specs.Frames.{command_frame, command_limit, commands_in, rest_of}

-- ---- why it is over

pub ended_is : {E : Type 0} (over : Over E) (ended : Option E) (held rest : List ℕ) → StopsBy over ended held rest
    → ended ≡ end_of over
ended_is (Ended end) ended held rest stops = stops
ended_is Open ended held rest stops = stops.0
ended_is Bad ended held rest stops = stops.0

cut_off_is : {E : Type 0} (over : Over E) (ended : Option E) (held rest : List ℕ) → StopsBy over ended held rest
    → is_left_off ended rest ≡ is_bad over
cut_off_is (Ended end) ended held rest stops = ap (λ o. is_left_off o rest) stops
cut_off_is Open ended held rest stops =
    ap (λ o. is_left_off o rest) stops.0 ∙ le-ltb command_limit (length rest) (partial_short rest stops.2)
cut_off_is Bad ended held rest stops =
    ap (λ o. is_left_off o rest) stops.0 ∙ lt-ltb command_limit (length rest) (refused_long rest stops.1)

rest_short : (bytes : List ℕ) → length (rest_of bytes) ≤ length bytes
rest_short bytes =
    omega (arith, length-drop (length (flat_map command_frame (commands_in bytes))) bytes)

module _ {S E : Type 0} (step : S → List ℕ → Reply S E) (start : S) (init : List ℕ) where
  pub over_is : (over : Over E) (read held : List ℕ) (count offset : ℕ) (source : Change)
      → StopsBy over (served step start read).ended held (rest_of read)
      → ((served step start read).ended ≡ None → held ≡ rest_of read)
      → StopsReading step start init (Finished over count) read source → offset ≡ count - length held
      → IsOver (if is_bad over then Some offset else None) (served step start read) read source
  over_is (Ended end) read held count offset source stops left reads is = inl (end, stops)
  over_is Open read held count offset source stops left reads is =
      let at_end = reads.1 (stops.0, stops.2) in inr ((stops.0, stops.2), at_end.0, at_end.1)
  over_is Bad read held count offset source stops left reads is =
      let all = ap (λ (l : List ℕ). length l) (left stops.0) in
      let counted = reads.0 in
      (stops.0, stops.1, omega (arith, all, counted, is, rest_short read))

-- ---- the record of it

module _ {S E : Type 0} (step : S → List ℕ → Reply S E) (rest_after : Option E → S → List ℕ)
    (ending_after : Option E → S → Option Outcome) (start : S) (init read : List ℕ) where
  -- the status, by how it is over
  status_is : (over : Over E) (state : S) (held : List ℕ) → state ≡ (served step start read).state
      → StopsBy over (served step start read).ended held (rest_of read)
      → status_by (behaviour_of step rest_after ending_after start init) read
      ≡ if is_bad over then bad_status else status (ending_after (end_of over) state)
  status_is over state held is stops = λ i.
      if cut_off_is over (served step start read).ended held (rest_of read) stops i then bad_status
      else status (ending_after (ended_is over (served step start read).ended held (rest_of read) stops i) (sym is i))

  pub status_so : (over : Over E) (state : S) (held : List ℕ) (bad : Bool) (ended : Option E) (outcome : Option Outcome)
      (s : ℕ) → state ≡ (served step start read).state
      → StopsBy over (served step start read).ended held (rest_of read) → bad ≡ is_bad over → ended ≡ end_of over
      → outcome ≡ ending_after ended state → s ≡ (if bad then bad_status else status outcome)
      → s ≡ status_by (behaviour_of step rest_after ending_after start init) read
  status_so over state held bad ended outcome s is stops bad_is end_is outcome_is s_is =
      s_is ∙ (λ i. if bad_is i then bad_status else status (outcome_is i))
      ∙ (λ i. if is_bad over then bad_status else status (ending_after (end_is i) state))
      ∙ sym (status_is over state held is stops)

  -- what was told of its end is so
  pub ended_so : (over : Over E) (held : List ℕ) (ended : Option E) → ended ≡ end_of over
      → StopsBy over (served step start read).ended held (rest_of read) → ended ≡ (served step start read).ended
  ended_so over held ended is stops = is ∙ sym (ended_is over (served step start read).ended held (rest_of read) stops)

  end_first : (s : ℕ) → is_status s ≡ true → lines_in (end_line s) ≡ end_line s ∷ []
  end_first s is = ap lines_in (sym (append-nil (end_line s))) ∙ cut_first (end_line s) [] (end_ends s is)

  -- all that it has told is told
  pub is_tape : (sl ol rest : List ℕ) (es fs : List Entry) (s : ℕ) → Tells step start init read es sl
      → (served step start read).program ≡ own es ++ ol → TellSome sl (ol ++ rest) fs [] []
      → rest ≡ rest_after (served step start read).ended (served step start read).state
      → s ≡ status_by (behaviour_of step rest_after ending_after start init) read → is_status s ≡ true
      → IsTape (behaviour_of step rest_after ending_after start init) read (flat_map line_of (es ++ fs) ++ end_line s) s
  is_tape sl ol rest es fs s tells program tell rest_is s_is is =
      let behaviour = behaviour_of step rest_after ending_after start init in
      let all = tells_on step start init read es sl tells (ol ++ rest) [] [] fs tell in
      let told : own (es ++ fs) ≡ (served step start read).program ++ rest =
      own_append es fs
      ∙ ap (λ l. own es ++ l) (sym (append-nil (own fs)) ∙ sym tell.own_reported)
      ∙ sym (append_assoc (own es) ol rest) ∙ ap (λ l. l ++ rest) (sym program) in
      record {
        recording = record { entries = es ++ fs; status = s };
        is = record {
          whole = entries_first (es ++ fs) (end_line s) all.are.each
              ∙ ap (λ l. map line_of (es ++ fs) ++ l) (end_first s is);
          entries = all.are;
          status = is;
        };
        faithful = record {
          throughout = all.throughout;
          ends = record {
            sent_all =
                sym (ap (sends step start init) all.all_given ∙ all.sent_reported ∙ append-nil (sent (es ++ fs)));
            own_all =
                told ∙ ap (λ l. (served step start read).program ++ l) rest_is
                ∙ ap behaviour.own (sym all.all_given);
            status = s_is ∙ ap (status_by behaviour) (sym all.all_given);
          };
        };
        all_given = all.all_given;
        ended = refl;
      }
