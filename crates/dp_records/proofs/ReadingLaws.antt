-- A record that is read line by line: what its next line does, and how the bytes go on behind it.
use Rattle.std.proofs.Common.{◌≡◌, ◌≢◌, ◌↔◌, ℕ, ◌+◌, ◌*◌, ◌<◌, ◌≤◌, ◌==◌, Bool, true, not, IsTrue, List, [], ◌∷◌, ◌++◌, length, take, drop, get_or, codes, decimal, Option, None, Some, refl, sym, ap, ◌∙◌, subst, append_assoc, append-nil, arith, length-append}
use Rattle.std.proofs.lemmas.Bool.{ne_eqb}
use Rattle.std.proofs.lemmas.Fmt.{length-decimal-le}
use Rattle.std.proofs.lemmas.List.Concat.{flat_map-append}
use Rattle.std.specs.Io.KnownBytes.{Consumes, IsAtEnd}
use Rattle.std.specs.List.{flat_map}
use Rattle.hex.specs.Hex.{encode_lower}
use Rattle.dp_conversation.specs.Folds.{Reply}
use Rattle.dp_conversation.specs.Service.{byte_limit}
use Rattle.dp_records.specs.declared.audits.Audit.{Audit}
use Rattle.dp_records.specs.declared.entry.Entry.{Entry}
use Rattle.dp_records.specs.declared.entry.Stream.{Stream}
use Rattle.dp_records.specs.declared.entry.Stream.TheVariants.{In, Out, Own}
use Rattle.dp_records.specs.declared.readings.Halt.{Halt}
use Rattle.dp_records.specs.declared.readings.Halt.TheVariants as halt
use Rattle.dp_records.specs.declared.readings.Reading.{Reading}
use Rattle.dp_records.specs.Records.{AreEntries, IsPiece, end_line, given, line_of, piece_limit, sent, word_of}
use Rattle.dp_records.specs.Statuses.{is_status}
use Rattle.dp_conversation.specs.Growth.{Begins}
use Rattle.dp_records.specs.Verdicts.{Agrees}
use Rattle.dp_records.specs.inner.Audits.{Come, EndsLine, HaltsBy, HaltsIn, HasLine, IsAudit, IsReading, StartsNoLine, has_no_feed, sends}
use Rattle.dp_records.specs.inner.Readings.{IsNoLine}
use Rattle.dp_records.proofs.DigitLaws.{digits_length}
use Rattle.dp_records.proofs.LineLaws.{end_ends, entry_ends, never_end, no_feed_append, one_entry, one_first, status_small, unended}
use Rattle.dp_records.proofs.TapeLaws.{throughout_none, throughout_one}

-- ---- lines that begin bytes

-- the most bytes of a line: a word of three letters, a space, two digits for each byte, and a line feed
abbrev pub line_limit : ℕ
line_limit = 5 + 2 * piece_limit

word_short : (stream : Stream) → length (word_of stream) ≤ 3
word_short In = omega arith
word_short Out = omega arith
word_short Own = omega arith

line_length : (entry : Entry)
    → length (line_of entry) ≡ length (word_of entry.stream ++ codes " " ++ encode_lower entry.bytes) + 1
line_length entry = length-append (word_of entry.stream ++ codes " " ++ encode_lower entry.bytes) (codes "\n")

entry_short : (entry : Entry) → IsPiece entry.bytes → length (line_of entry) ≤ line_limit
entry_short entry piece =
    let fits = piece.fits in
    let digits = encode_lower entry.bytes in
    let word = word_of entry.stream in
    omega (
      arith,
      fits,
      word_short entry.stream,
      digits_length entry.bytes,
      length-append word (codes " "),
      length-append (word ++ codes " ") digits,
      line_length entry,
    )

end_short : (status : ℕ) → is_status status ≡ true → length (end_line status) ≤ line_limit
end_short status is =
    let small = status_small status is in
    omega (
      arith,
      length-decimal-le 3 status (omega arith) (omega (arith, small)) (omega (arith, small)),
      length-append (codes "end ") (decimal status ++ codes "\n"),
      length-append (decimal status) (codes "\n"),
    )

-- of two fronts of the same bytes the longer begins with the shorter
longer_front : (long other short rest : List ℕ) → long ++ other ≡ short ++ rest → length short ≤ length long
    → (tail : List ℕ) × (long ≡ short ++ tail)
longer_front long other [] rest same less = (long, refl)
longer_front [] other (s ∷ short) rest same less = absurd (omega (arith, less))
longer_front (l ∷ long) other (s ∷ short) rest same less =
    let more = longer_front long other short rest (ap (drop 1) same) (omega (arith, less)) in
    let first : l ≡ s = ap (λ (x : List ℕ). get_or x 0 0) same in
    (more.0, λ i. first i ∷ more.1 i)

module _ (es : List Entry) where
  -- a line that is none of a record
  pub starts_none : (line rest : List ℕ) → EndsLine line → IsNoLine line → StartsNoLine es (line ++ rest)
  starts_none line rest ends none = record {
    reports_none = λ entry more piece within same.
        none.reports_none entry piece (one_first line (line_of entry) rest more ends (entry_ends entry piece) same);
    ends_none = λ status more is same.
        none.ends_none status is (one_first line (end_line status) rest more ends (end_ends status is) same);
  }

  -- a line that gives more than a session reads
  pub starts_too_much : (e : Entry) (rest : List ℕ) → IsPiece e.bytes → byte_limit < length (given (es ++ e ∷ []))
      → StartsNoLine es (line_of e ++ rest)
  starts_too_much e rest is much = record {
    reports_none = λ entry more piece within same.
        let one = one_entry e entry is piece
        (one_first (line_of e) (line_of entry) rest more (entry_ends e is) (entry_ends entry piece) same) in
        let fits = subst (λ (f : Entry). length (given (es ++ f ∷ [])) ≤ byte_limit) (sym one) within in
        omega (arith, fits, much);
    ends_none = λ status more ok same.
        never_end e status (one_first (line_of e) (end_line status) rest more (entry_ends e is) (end_ends status ok)
        same);
  }

  -- bytes without a line feed, and no more
  pub starts_unended : (line : List ℕ) → has_no_feed line ≡ true → StartsNoLine es line
  starts_unended line none = record {
    reports_none = λ entry more piece within same. unended line (line_of entry) more none (entry_ends entry piece) same;
    ends_none = λ status more is same. unended line (end_line status) more none (end_ends status is) same;
  }

  -- more bytes without a line feed than a line has
  pub starts_long : (line rest : List ℕ) → has_no_feed line ≡ true → line_limit < length line
      → StartsNoLine es (line ++ rest)
  starts_long line rest none long = record {
    reports_none = λ entry more piece within same.
        let front = longer_front line rest (line_of entry) more same (omega (arith, long, entry_short entry piece)) in
        unended line (line_of entry) front.0 none (entry_ends entry piece) front.1;
    ends_none = λ status more is same.
        let front = longer_front line rest (end_line status) more same (omega (arith, long, end_short status is)) in
        unended line (end_line status) front.0 none (end_ends status is) front.1;
  }

-- ---- pieces

pub some_is : (none : Bool) (bytes : List ℕ) → none ≡ (length bytes == 0) → IsTrue (not none) ↔ (bytes ≢ [])
some_is none [] is = (λ yes. let so = ap not is in absurd (cc), λ some. absurd (some refl))
some_is none (b ∷ bytes) is = (
  λ yes same. cc,
  λ some. ap not (is ∙ ne_eqb (length (b ∷ bytes)) 0 (λ e. omega (arith, e))),
)

pub piece_on : (bytes done rest piece : List ℕ) → piece ≡ done ++ rest → (bytes ++ done) ++ rest ≡ bytes ++ piece
piece_on bytes done rest piece is = append_assoc bytes done rest ∙ ap (λ l. bytes ++ l) (sym is)

pub line_on : (bytes done rest line behind piece : List ℕ) → piece ≡ done ++ rest → rest ≡ line ++ behind
    → ((bytes ++ done) ++ line) ++ behind ≡ bytes ++ piece
line_on bytes done rest line behind piece is cut =
    append_assoc (bytes ++ done) line behind ∙ ap (λ l. (bytes ++ done) ++ l) (sym cut)
    ∙ piece_on bytes done rest piece is

module _ {S E : Type 0} (step : S → List ℕ → Reply S E) (start : S) (init : List ℕ) where
  -- ---- bytes that come

  -- the bytes go on
  come_more : (es : List Entry) (later bytes more : List ℕ) (number : ℕ) → Come step start init es later bytes number
      → Come step start init es (later ++ more) (bytes ++ more) number
  come_more es later bytes more number c = record {
    whole = ap (λ l. l ++ more) c.whole ∙ append_assoc (flat_map line_of es) later more;
    are = c.are;
    throughout = c.throughout;
    is_number = c.is_number;
  }

  come_so : (es : List Entry) (later others bytes : List ℕ) (number : ℕ) → later ≡ others
      → Come step start init es later bytes number → Come step start init es others bytes number
  come_so es later others bytes number same c =
      subst (λ (l : List ℕ). Come step start init es l bytes number) same c

  -- a piece without a line feed is a part of the line that has not come whole
  pub reads_part : (bytes more : List ℕ) (old new : Reading S E) → IsReading step start init bytes old
      → has_no_feed more ≡ true → new.line.items ≡ old.line.items ++ more → new.number ≡ old.number
      → new.audit ≡ old.audit → IsReading step start init (bytes ++ more) new
  reads_part bytes more old new h none line number audit =
      let all = no_feed_append old.line.items more h.no_feed none in
      record {
        entries = h.entries;
        come = come_so h.entries (old.line.items ++ more) new.line.items (bytes ++ more) new.number (sym line)
            (subst (Come step start init h.entries (old.line.items ++ more) (bytes ++ more)) (sym number)
            (come_more h.entries old.line.items bytes more old.number h.come));
        no_feed = ap has_no_feed line ∙ all;
        audit = subst (IsAudit step start init h.entries) (sym audit) h.audit;
      }

  -- the rest of that line makes it whole
  pub reads_line : (bytes more : List ℕ) (old new : Reading S E) → IsReading step start init bytes old
      → EndsLine more → new.line.items ≡ old.line.items ++ more → new.number ≡ old.number
      → new.audit ≡ old.audit → HasLine step start init (bytes ++ more) new
  reads_line bytes more old new h ends line number audit = record {
    entries = h.entries;
    come = come_so h.entries (old.line.items ++ more) new.line.items (bytes ++ more) new.number (sym line)
        (subst (Come step start init h.entries (old.line.items ++ more) (bytes ++ more)) (sym number)
        (come_more h.entries old.line.items bytes more old.number h.come));
    line = record {
      front = old.line.items ++ ends.front;
      whole = line ∙ ap (λ l. old.line.items ++ l) ends.whole
          ∙ sym (append_assoc old.line.items ends.front (10 ∷ []));
      no_feed = no_feed_append old.line.items ends.front h.no_feed ends.no_feed;
    };
    audit = subst (IsAudit step start init h.entries) (sym audit) h.audit;
  }

  -- too long a part begins no line
  pub halts_long : (bytes : List ℕ) (reading : Reading S E) → IsReading step start init bytes reading
      → line_limit < length reading.line.items → HaltsBy step start init halt.Bad bytes reading
  halts_long bytes reading h long = record {
    entries = h.entries;
    rest = reading.line.items;
    come = h.come;
    none = λ more. starts_long h.entries reading.line.items more h.no_feed long;
  }

  -- ---- a line that has come whole

  module _ (bytes behind : List ℕ) (old new : Reading S E) (h : HasLine step start init bytes old)
      (number : new.number ≡ old.number) where
    line_comes : Come step start init h.entries (old.line.items ++ behind) (bytes ++ behind) new.number
    line_comes =
        subst (Come step start init h.entries (old.line.items ++ behind) (bytes ++ behind)) (sym number)
        (come_more h.entries old.line.items bytes behind old.number h.come)

    line_is_so : (line : List ℕ) → old.line.items ≡ line
        → Come step start init h.entries (line ++ behind) (bytes ++ behind) new.number
    line_is_so line is =
        come_so h.entries (old.line.items ++ behind) (line ++ behind) (bytes ++ behind) new.number
        (ap (λ l. l ++ behind) is) line_comes

    pub halts_none : IsNoLine old.line.items → HaltsBy step start init halt.Bad (bytes ++ behind) new
    halts_none none = record {
      entries = h.entries;
      rest = old.line.items ++ behind;
      come = line_comes;
      none = λ more. subst (StartsNoLine h.entries) (sym (append_assoc old.line.items behind more))
          (starts_none h.entries old.line.items (behind ++ more) h.line none);
    }

    pub halts_too_much : (e : Entry) → old.line.items ≡ line_of e → IsPiece e.bytes
        → byte_limit < length (given (h.entries ++ e ∷ [])) → HaltsBy step start init halt.Bad (bytes ++ behind) new
    halts_too_much e is piece much = record {
      entries = h.entries;
      rest = line_of e ++ behind;
      come = line_is_so (line_of e) is;
      none = λ more. subst (StartsNoLine h.entries) (sym (append_assoc (line_of e) behind more))
          (starts_too_much h.entries e (behind ++ more) piece much);
    }

    pub halts_differs : (e : Entry) → old.line.items ≡ line_of e
        → AreEntries (h.entries ++ e ∷ []) × (Agrees (sends step start init) (h.entries ++ e ∷ []) → ⊥)
        → HaltsBy step start init halt.Differs (bytes ++ behind) new
    halts_differs e is never = record {
      entries = h.entries;
      entry = e;
      rest = behind;
      come = line_is_so (line_of e) is;
      are = never.0;
      differs = never.1;
    }

  -- an audit agrees
  audit_agrees : (es : List Entry) (audit : Audit S E) → IsAudit step start init es audit
      → Agrees (sends step start init) es
  audit_agrees es audit a =
      subst (λ (l : List ℕ). Begins (sent es) (sends step start init l)) (sym a.all_given) a.front

  -- nothing was read
  pub reads_none : (reading : Reading S E) → IsAudit step start init [] reading.audit → reading.line.items ≡ []
      → reading.number ≡ 0 → IsReading step start init [] reading
  reads_none reading audit none number = record {
    entries = [];
    come = record {
      whole = sym none;
      are = audit.are;
      throughout = throughout_none (sends step start init) (audit_agrees [] reading.audit audit);
      is_number = number;
    };
    no_feed = ap has_no_feed none;
    audit = audit;
  }

  pub takes_entry : (bytes : List ℕ) (old new : Reading S E) (h : HasLine step start init bytes old) (e : Entry)
      → old.line.items ≡ line_of e → IsAudit step start init (h.entries ++ e ∷ []) new.audit
      → new.line.items ≡ [] → new.number ≡ old.number + 1 → IsReading step start init bytes new
  takes_entry bytes old new h e is audit none number =
      let counted = h.come.is_number in
      let all : bytes ≡ flat_map line_of (h.entries ++ e ∷ []) ++ [] =
      h.come.whole ∙ ap (λ l. flat_map line_of h.entries ++ l) (is ∙ sym (append-nil (line_of e)))
      ∙ sym (flat_map-append line_of h.entries (e ∷ []))
      ∙ sym (append-nil (flat_map line_of (h.entries ++ e ∷ []))) in
      record {
        entries = h.entries ++ e ∷ [];
        come = record {
          whole = all ∙ ap (λ l. flat_map line_of (h.entries ++ e ∷ []) ++ l) (sym none);
          are = audit.are;
          throughout = throughout_one (sends step start init) h.entries e h.come.throughout
              (audit_agrees (h.entries ++ e ∷ []) new.audit audit);
          is_number = omega (arith, number, counted, length-append h.entries (e ∷ []));
        };
        no_feed = ap has_no_feed none;
        audit = audit;
      }

  -- ---- no more comes

  pub halts_in : (why : Halt) (read left : List ℕ) (reading : Reading S E) → HaltsBy step start init why read reading
      → HaltsIn step start init why read left reading
  halts_in (halt.Ends status more) read left reading h = h
  halts_in halt.Differs read left reading h = h
  halts_in halt.Bad read left reading h = record {
    entries = h.entries;
    rest = h.rest ++ left;
    come = come_more h.entries h.rest read left reading.number h.come;
    none = h.none left;
  }

  pub halts_at_end : (read : List ℕ) (reading : Reading S E) → IsReading step start init read reading
      → HaltsIn step start init halt.Bad read [] reading
  halts_at_end read reading h = record {
    entries = h.entries;
    rest = reading.line.items;
    come = subst (λ (l : List ℕ). Come step start init h.entries reading.line.items l reading.number)
        (sym (append-nil read)) h.come;
    none = starts_unended h.entries reading.line.items h.no_feed;
  }

-- ---- a source that tells what it still gives

pub record GivesOn (left piece : List ℕ) (new : Option (List ℕ)) : Type 0 where
  pub rest : List ℕ
  pub is : new ≡ Some rest
  pub whole : left ≡ piece ++ rest

gives_so : (left piece : List ℕ) (new : Option (List ℕ)) → Consumes (Some left) new piece → GivesOn left piece new
gives_so left piece None h = absurd h
gives_so left piece (Some rest) h = record { rest = rest; is = refl; whole = h }

pub gives_on : (left piece : List ℕ) (old new : Option (List ℕ)) → old ≡ Some left → Consumes old new piece
    → GivesOn left piece new
gives_on left piece old new is h =
    gives_so left piece new (subst (λ (o : Option (List ℕ)). Consumes o new piece) is h)

-- it gives its end
pub gives_end : (left buffer : List ℕ) (count : ℕ) (old new : Option (List ℕ)) → old ≡ Some left
    → Consumes old new (take count buffer) × (count ≡ 0 → 0 < length buffer → IsAtEnd new) → count ≡ 0
    → 0 < length buffer → (left ≡ []) × (new ≡ Some [])
gives_end left buffer count old new is h none some =
    let on = gives_on left (take count buffer) old new is h.0 in
    let end : on.rest ≡ [] = subst IsAtEnd on.is (h.1 none some) in
    (on.whole ∙ ap (λ n. take n buffer ++ on.rest) none ∙ end, on.is ∙ ap (λ (l : List ℕ). Some l) end)

pub whole_on : (bytes read left piece rest : List ℕ) → bytes ≡ read ++ left → left ≡ piece ++ rest
    → bytes ≡ (read ++ piece) ++ rest
whole_on bytes read left piece rest is cut = is ∙ ap (λ l. read ++ l) cut ∙ sym (append_assoc read piece rest)
