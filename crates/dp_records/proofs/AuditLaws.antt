-- A session that follows a record: what one line more does to it, and what it says at the end.
use Rattle.std.proofs.Common.{◌≡◌, ◌↔◌, ℕ, ◌+◌, ◌≤◌, ◌==◌, ◌&&◌, Bool, true, IsTrue, List, [], ◌∷◌, ◌++◌, length, Option, refl, sym, ap, ◌∙◌, subst, append_assoc, append-nil, arith, length-append}
use Rattle.std.proofs.lemmas.Bool.{and_parts, eq-eqb, eqb-true}
use Rattle.std.specs.List.{flat_map}
use Rattle.dp_conversation.specs.Folds.{Reply}
use Rattle.dp_conversation.specs.Growth.{Begins, served}
use Rattle.dp_conversation.specs.Service.{byte_limit}
use Rattle.dp_records.specs.declared.audits.Audit.{Audit}
use Rattle.dp_records.specs.declared.balances.Balance.{Balance}
use Rattle.dp_records.specs.declared.entry.Entry.{Entry}
use Rattle.dp_records.specs.declared.entry.Stream.TheVariants.{In, Out, Own}
use Rattle.dp_records.specs.Behaviours.{Behaviour, behaviour_of, status_by}
use Rattle.dp_records.specs.Records.{AreEntries, IsPiece, given, own, sent}
use Rattle.dp_records.specs.Verdicts.{EndsRight}
use Rattle.dp_records.specs.inner.Audits.{IsAudit, sends}
use Rattle.dp_records.specs.inner.Balances.{IsBalance, RecordReports, SessionReports}
use Rattle.dp_records.proofs.RecordLaws.{given_append, given_length, pieces_join}
use Rattle.dp_records.proofs.TapeLaws.{own_append, sent_append}
use Rattle.dp_records.proofs.TurnLaws.{Grows}
use Rattle.dp_state.specs.declared.moments.Outcome.{Outcome}
use Rattle.dp_wire.specs.Frames.{packet_frame}

-- ---- what was reported

pub reports_none : (balance : Balance) → SessionReports balance balance []
reports_none balance = λ told other is. subst (λ (l : List ℕ). IsBalance balance l other) (sym (append-nil told)) is

pub reports_join : (a b c : Balance) (first second : List ℕ) → SessionReports a b first → SessionReports b c second
    → SessionReports a c (first ++ second)
reports_join a b c first second p q = λ told other is.
    subst (λ (l : List ℕ). IsBalance c l other) (append_assoc told first second)
    (q (told ++ first) other (p told other is))

pub reports_so : (a b : Balance) (bytes others : List ℕ) → bytes ≡ others → SessionReports a b bytes
    → SessionReports a b others
reports_so a b bytes others same p = subst (SessionReports a b) same p

module _ {S E : Type 0} (step : S → List ℕ → Reply S E) (start : S) (init : List ℕ) where
  -- ---- at the start

  module _ (es : List Entry) (old : Audit S E) (h : IsAudit step start init es old) where
    -- ---- a line that gives nothing

    abbrev with_balances : Balance → Balance → Audit S E
    with_balances s o = record { talk = old.talk; over = old.over; given = old.given; sent = s; own = o }

    are_so : (e : Entry) → given (e ∷ []) ≡ [] → IsPiece e.bytes → AreEntries (es ++ e ∷ [])
    are_so e none piece =
        let within = h.are.within in
        let nothing = ap (λ (l : List ℕ). length l) none in
        record {
          each = pieces_join es (e ∷ []) h.are.each (piece, tt);
          within = omega (arith, given_length es (e ∷ []), within, nothing);
        }

    given_so : (e : Entry) → given (e ∷ []) ≡ [] → given (es ++ e ∷ []) ≡ h.read
    given_so e none = given_append es (e ∷ []) ∙ ap (λ l. given es ++ l) none ∙ append-nil (given es) ∙ h.all_given

    told_so : (e : Entry) (s o : Balance) → given (e ∷ []) ≡ [] → IsPiece e.bytes
        → Begins (sent (es ++ e ∷ [])) (sends step start init h.read)
        → IsBalance s (sends step start init h.read) (sent (es ++ e ∷ []))
        → IsBalance o (served step start h.read).program (own (es ++ e ∷ []))
        → IsAudit step start init (es ++ e ∷ []) (with_balances s o)
    told_so e s o none piece front sent_is own_is = record {
      read = h.read;
      are = are_so e none piece;
      all_given = given_so e none;
      is_given = h.is_given;
      front = front;
      is_state = h.is_state;
      stops = h.stops;
      sent_balance = sent_is;
      own_balance = own_is;
    }

    module _ (bytes : List ℕ) (piece : IsPiece bytes) where
      abbrev out_entry : Entry
      out_entry = record { stream = Out; bytes = bytes }

      out_sent : sent (es ++ out_entry ∷ []) ≡ sent es ++ bytes
      out_sent = sent_append es (out_entry ∷ []) ∙ ap (λ l. sent es ++ l) (append-nil bytes)

      out_balance : (s : Balance) → RecordReports old.sent s bytes
          → IsBalance s (sends step start init h.read) (sent (es ++ out_entry ∷ []))
      out_balance s reported =
          subst (IsBalance s (sends step start init h.read)) (sym out_sent)
          (reported (sends step start init h.read) (sent es) h.sent_balance)

      out_fits : (s : Balance) → RecordReports old.sent s bytes
          → Begins (sent (es ++ out_entry ∷ [])) (sends step start init h.read)
          → IsAudit step start init (es ++ out_entry ∷ []) (with_balances s old.own)
      out_fits s reported front =
          told_so out_entry s old.own refl piece front (out_balance s reported)
          (subst (IsBalance old.own (served step start h.read).program)
          (sym (own_append es (out_entry ∷ []) ∙ append-nil (own es))) h.own_balance)

      abbrev own_entry : Entry
      own_entry = record { stream = Own; bytes = bytes }

      own_fits : (o : Balance) → RecordReports old.own o bytes
          → IsAudit step start init (es ++ own_entry ∷ []) (with_balances old.sent o)
      own_fits o reported =
          let same : sent (es ++ own_entry ∷ []) ≡ sent es =
          sent_append es (own_entry ∷ []) ∙ append-nil (sent es) in
          let told : own (es ++ own_entry ∷ []) ≡ own es ++ bytes =
          own_append es (own_entry ∷ []) ∙ ap (λ l. own es ++ l) (append-nil bytes) in
          told_so own_entry old.sent o refl piece
          (subst (λ (l : List ℕ). Begins l (sends step start init h.read)) (sym same) h.front)
          (subst (IsBalance old.sent (sends step start init h.read)) (sym same) h.sent_balance)
          (subst (IsBalance o (served step start h.read).program) (sym told)
          (reported (served step start h.read).program (own es) h.own_balance))

      -- ---- a line that gives bytes

      abbrev in_entry : Entry
      in_entry = record { stream = In; bytes = bytes }

      in_given : given (es ++ in_entry ∷ []) ≡ h.read ++ bytes
      in_given = given_append es (in_entry ∷ []) ∙ (λ i. h.all_given i ++ append-nil bytes i)

      in_length : length (given (es ++ in_entry ∷ [])) ≡ length h.read + length bytes
      in_length = ap (λ (l : List ℕ). length l) in_given ∙ length-append h.read bytes

      pub in_fits : (new : Audit S E) (frames program : List ℕ) → old.given + length bytes ≤ byte_limit
          → new.given ≡ old.given + length bytes
          → Grows step start h.read bytes new.talk.session new.over new.talk.held.held frames program
          → SessionReports old.sent new.sent frames → SessionReports old.own new.own program
          → IsAudit step start init (es ++ in_entry ∷ []) new
      in_fits new frames program fits given_is grows sent_more own_more =
          let is = h.is_given in
          let sends_more : sends step start init (h.read ++ bytes) ≡ sends step start init h.read ++ frames =
          ap (λ l. packet_frame init ++ l) grows.adds.frames
          ∙ sym (append_assoc (packet_frame init) (flat_map packet_frame (served step start h.read).packets) frames) in
          let same_sent : sent (es ++ in_entry ∷ []) ≡ sent es =
          sent_append es (in_entry ∷ []) ∙ append-nil (sent es) in
          let same_own : own (es ++ in_entry ∷ []) ≡ own es = own_append es (in_entry ∷ []) ∙ append-nil (own es) in
          record {
            read = h.read ++ bytes;
            are = record {
              each = pieces_join es (in_entry ∷ []) h.are.each (piece, tt);
              within = omega (arith, in_length, fits, is);
            };
            all_given = in_given;
            is_given = omega (arith, given_is, is, length-append h.read bytes);
            front = (
              h.front.0 ++ frames,
              sends_more ∙ ap (λ l. l ++ frames) h.front.1 ∙ append_assoc (sent es) h.front.0 frames
                  ∙ ap (λ l. l ++ (h.front.0 ++ frames)) (sym same_sent),
            );
            is_state = grows.is_state;
            stops = grows.stops;
            sent_balance =
                subst (IsBalance new.sent (sends step start init (h.read ++ bytes))) (sym same_sent)
                (subst (λ (l : List ℕ). IsBalance new.sent l (sent es)) (sym sends_more)
                (sent_more (sends step start init h.read) (sent es) h.sent_balance));
            own_balance =
                subst (IsBalance new.own (served step start (h.read ++ bytes)).program) (sym same_own)
                (subst (λ (l : List ℕ). IsBalance new.own l (own es)) (sym grows.adds.program)
                (own_more (served step start h.read).program (own es) h.own_balance));
          }

    -- the same by a line of a stream
    module _ (e : Entry) (piece : IsPiece e.bytes) (slice : List ℕ) (same : slice ≡ e.bytes) where
      pub takes_out : e.stream ≡ Out → (s : Balance) → RecordReports old.sent s slice
          → ((told other : List ℕ) → IsBalance s told other → Begins other told)
          → IsAudit step start init (es ++ e ∷ []) (with_balances s old.own)
      takes_out is s reported front =
          let all = subst (RecordReports old.sent s) same reported in
          subst (λ (f : Entry). IsAudit step start init (es ++ f ∷ []) (with_balances s old.own))
          (λ i. record { stream = sym is i; bytes = e.bytes })
          (out_fits e.bytes piece s all (front (sends step start init h.read) _ (out_balance e.bytes piece s all)))

      pub takes_own : e.stream ≡ Own → (o : Balance) → RecordReports old.own o slice
          → IsAudit step start init (es ++ e ∷ []) (with_balances old.sent o)
      takes_own is o reported =
          subst (λ (f : Entry). IsAudit step start init (es ++ f ∷ []) (with_balances old.sent o))
          (λ i. record { stream = sym is i; bytes = e.bytes })
          (own_fits e.bytes piece o (subst (RecordReports old.own o) same reported))

    -- ---- at the end

    module _ (rest_after : Option E → S → List ℕ) (ending_after : Option E → S → Option Outcome) (rest : List ℕ)
        (rest_is : rest ≡ rest_after (served step start h.read).ended (served step start h.read).state)
        (told ends : ℕ) (ends_is : ends ≡ status_by (behaviour_of step rest_after ending_after start init) h.read) where
      abbrev behaviour : Behaviour
      behaviour = behaviour_of step rest_after ending_after start init

      own_whole : behaviour.own (given es) ≡ (served step start h.read).program ++ rest
      own_whole = ap behaviour.own h.all_given ∙ ap (λ l. (served step start h.read).program ++ l) (sym rest_is)

      pub ends_right : (a b : Bool) → (IsTrue a ↔ (sent es ≡ sends step start init h.read))
          → (IsTrue b ↔ (own es ≡ (served step start h.read).program ++ rest))
          → IsTrue (a && b && (told == ends)) ↔ EndsRight behaviour (record { entries = es; status = told })
      ends_right a b p q = (
        λ yes.
            let both = and_parts (a && b) (told == ends) yes in
            let first = and_parts a b both.0 in
            record {
              sent_all = p.0 first.0 ∙ ap (sends step start init) (sym h.all_given);
              own_all = q.0 first.1 ∙ sym own_whole;
              status = eqb-true told ends both.1 ∙ ends_is ∙ ap (status_by behaviour) (sym h.all_given);
            },
        λ right.
            let first : a ≡ true = p.1 (right.sent_all ∙ ap (sends step start init) h.all_given) in
            let second : b ≡ true = q.1 (right.own_all ∙ own_whole) in
            let same : told ≡ ends = right.status ∙ ap (status_by behaviour) h.all_given ∙ sym ends_is in
            rw (first, second, same) (eq-eqb ends ends refl),
      )
