-- What is to be said of a record, by where reading it ended.
use Rattle.std.proofs.Common.{◌≡◌, ◌≢◌, ◌↔◌, ℕ, ◌+◌, ◌==◌, Bool, true, false, IsTrue, List, [], ◌∷◌, ◌++◌, map, Option, refl, sym, ap, ◌∙◌, subst, append_assoc, append-nil, inl, inr}
use Rattle.std.proofs.lemmas.List.Concat.{flat_map-append}
use Rattle.std.specs.List.{flat_map}
use Rattle.dp_conversation.specs.Folds.{Reply}
use Rattle.dp_records.specs.declared.entry.Entry.{Entry}
use Rattle.dp_records.specs.declared.readings.Reading.{Reading}
use Rattle.dp_records.specs.Behaviours.{Behaviour, behaviour_of}
use Rattle.dp_grammar.specs.Lines.{begun}
use Rattle.dp_records.specs.Records.{end_line, line_of, lines_in}
use Rattle.dp_records.specs.Verdicts.{DiffersAt, EndsRight, IsBadAt, IsHonest}
use Rattle.dp_records.specs.inner.Audits.{ComesDifferent, ComesEnd, IsNone}
use Rattle.dp_records.proofs.LineLaws.{cut_first, end_ends, entries_first}
use Rattle.dp_records.proofs.RecordLaws.{first_bad, none_at_all, none_before, second_bad}
use Rattle.dp_state.specs.declared.moments.Outcome.{Outcome}

-- ---- lines

-- the lines of entries, one more, and the rest
one_more : (es : List Entry) (e : Entry) (rest : List ℕ)
    → flat_map line_of es ++ (line_of e ++ rest) ≡ flat_map line_of (es ++ e ∷ []) ++ rest
one_more es e rest =
    sym (append_assoc (flat_map line_of es) (line_of e) rest)
    ∙ ap (λ l. l ++ rest) (ap (λ l. flat_map line_of es ++ l) (sym (append-nil (line_of e)))
    ∙ sym (flat_map-append line_of es (e ∷ [])))

pub record HasFirst (bytes : List ℕ) : Type 0 where
  pub first : List ℕ
  pub others : List (List ℕ)
  pub is : lines_in bytes ≡ first ∷ others

-- bytes have a line
has_first : (bytes : List ℕ) → bytes ≢ [] → HasFirst bytes
has_first [] some = absurd (some refl)
has_first (b ∷ bytes) some = by (b == 10) refl where
  wide : (lines : List (List ℕ)) → (l : List ℕ) × (ls : List (List ℕ)) × (begun b lines ≡ l ∷ ls)
  wide [] = (b ∷ [], [], refl)
  wide (line ∷ lines) = (b ∷ line, lines, refl)

  by : (t : Bool) → (b == 10) ≡ t → HasFirst (b ∷ bytes)
  by true is = record { first = 10 ∷ []; others = lines_in bytes; is = rw is refl }
  by false is =
      let w = wide (lines_in bytes) in
      record { first = w.0; others = w.1; is = rw is w.2 }

-- a test of whether there are bytes
pub nothing_more : (more : Bool) (rest : List ℕ) → IsTrue more ↔ (rest ≢ []) → more ≡ false → rest ≡ []
nothing_more more [] is never = refl
nothing_more more (b ∷ rest) is never = let yes : more ≡ true = is.1 (λ e. cc) in absurd (cc)

pub some_left : (rest left : List ℕ) → (left ≡ [] → ⊥) → rest ++ left ≡ [] → ⊥
some_left [] left some e = some e
some_left (b ∷ rest) left some e = absurd (cc)

pub some_first : (rest left : List ℕ) → (rest ≡ [] → ⊥) → rest ++ left ≡ [] → ⊥
some_first [] left some e = some refl
some_first (b ∷ rest) left some e = absurd (cc)

module _ {S E : Type 0} (step : S → List ℕ → Reply S E) (rest_after : Option E → S → List ℕ)
    (ending_after : Option E → S → Option Outcome) (start : S) (init : List ℕ) where
  abbrev behaviour : Behaviour
  behaviour = behaviour_of step rest_after ending_after start init

  pub judged_different : (read left : List ℕ) (number : ℕ) → ComesDifferent step start init read number
      → DiffersAt behaviour (read ++ left) (number + 1)
  judged_different read left number c = inl (record {
    before = c.entries;
    entry = c.entry;
    later = lines_in (c.rest ++ left);
    begins = record {
      whole =
          ap lines_in (ap (λ l. l ++ left) (c.come.whole ∙ one_more c.entries c.entry c.rest)
          ∙ append_assoc (flat_map line_of (c.entries ++ c.entry ∷ [])) c.rest left)
          ∙ entries_first (c.entries ++ c.entry ∷ []) (c.rest ++ left) c.are.each;
      are = c.are;
    };
    throughout = c.come.throughout;
    differs = c.differs;
    here = ap (λ n. n + 1) c.come.is_number;
  })

  pub judged_bad : (bytes : List ℕ) (number : ℕ) → IsNone step start init bytes number
      → IsBadAt behaviour bytes (number + 1)
  judged_bad bytes number none =
      let come = none.come in
      subst (λ n. IsBadAt behaviour bytes (n + 1)) (sym come.is_number) (
        first_bad none.entries come.are none.rest none.none bytes come.whole,
        none_before behaviour bytes none.entries come.are.each come.throughout none.rest come.whole,
      )

  -- ---- the last line

  module _ (status : ℕ) (more : Bool) (read left : List ℕ) (reading : Reading S E)
      (c : ComesEnd step start init status more read reading) where
    end_lines : lines_in (read ++ left) ≡ map line_of c.entries ++ end_line status ∷ lines_in (c.rest ++ left)
    end_lines =
        ap lines_in (ap (λ l. l ++ left) c.come.whole
        ∙ append_assoc (flat_map line_of c.entries) (end_line status ++ c.rest) left
        ∙ ap (λ l. flat_map line_of c.entries ++ l) (append_assoc (end_line status) c.rest left))
        ∙ entries_first c.entries (end_line status ++ (c.rest ++ left)) c.come.are.each
        ∙ ap (λ l. map line_of c.entries ++ l)
        (cut_first (end_line status) (c.rest ++ left) (end_ends status c.is_status))

    pub judged_end : (EndsRight behaviour (record { entries = c.entries; status = status }) → ⊥)
        → DiffersAt behaviour (read ++ left) (reading.number + 1)
    judged_end never = inr (record {
      entries = c.entries;
      status = status;
      later = lines_in (c.rest ++ left);
      begins = record { whole = end_lines; are = c.come.are };
      is_status = c.is_status;
      throughout = c.come.throughout;
      differs = never;
      here = ap (λ n. n + 1) c.come.is_number;
    })

    module _ (right : EndsRight behaviour (record { entries = c.entries; status = status })) where
      pub judged_honest : c.rest ++ left ≡ [] → IsHonest behaviour (read ++ left)
      judged_honest none = (
        record { entries = c.entries; status = status },
        record {
          whole = end_lines ∙ ap (λ l. map line_of c.entries ++ end_line status ∷ lines_in l) none;
          entries = c.come.are;
          status = c.is_status;
        },
        record { throughout = c.come.throughout; ends = right },
      )

      pub judged_behind : (c.rest ++ left ≡ [] → ⊥) → IsBadAt behaviour (read ++ left) (reading.number + 1 + 1)
      judged_behind some =
          let has = has_first (c.rest ++ left) some in
          let whole : lines_in (read ++ left)
          ≡ map line_of c.entries ++ end_line status ∷ has.first ∷ has.others =
          end_lines ∙ ap (λ l. map line_of c.entries ++ end_line status ∷ l) has.is in
          subst (λ n. IsBadAt behaviour (read ++ left) (n + 1 + 1)) (sym c.come.is_number) (
            second_bad c.entries c.come.are status c.is_status has.first has.others (read ++ left) whole,
            λ earlier less d.
                none_at_all behaviour (read ++ left) c.entries c.come.are.each c.come.throughout status c.is_status
                (has.first ∷ has.others) whole right earlier d,
          )
