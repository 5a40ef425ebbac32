-- The lines of a record: how they are told apart.
use Rattle.std.proofs.Common.{◌≡◌, ℕ, ◌<◌, ◌==◌, ◌||◌, Bool, true, false, not, List, [], ◌∷◌, ◌++◌, drop, get_or, map, nat_le, codes, decimal, refl, sym, ap, ◌∙◌, subst, append_assoc, inl, inr, arith}
use Rattle.std.proofs.lemmas.Bool.{and_parts, leb-true, or_cases, eqb-true}
use Rattle.std.proofs.lemmas.List.{append_cancel_right}
use Rattle.std.specs.List.{AllByRecursion, flat_map}
use Rattle.hex.specs.Hex.{encode_lower}
use Rattle.dp_records.specs.declared.entry.Entry.{Entry}
use Rattle.dp_records.specs.declared.entry.Stream.{Stream}
use Rattle.dp_records.specs.declared.entry.Stream.TheVariants.{In, Out, Own}
use Rattle.dp_grammar.specs.Lines.{begun}
use Rattle.dp_records.specs.Records.{IsPiece, end_line, line_of, lines_in, word_of}
use Rattle.dp_records.specs.Statuses.{is_status}
use Rattle.dp_records.specs.inner.Audits.{EndsLine, has_no_feed}
use Rattle.dp_records.specs.inner.Readings.{IsNoLine}
use Rattle.dp_records.proofs.DigitLaws.{digits_no_feed, one_spelling}
use Rattle.dp_records.proofs.NumberLaws.{number_no_feed, one_number}

-- ---- line feeds

not_so : (t : Bool) → not t ≡ true → t ≡ false
not_so true h = absurd cc
not_so false h = refl

pub no_feed_append : (a b : List ℕ) → has_no_feed a ≡ true → has_no_feed b ≡ true → has_no_feed (a ++ b) ≡ true
no_feed_append [] b p q = q
no_feed_append (x ∷ a) b p q =
    let parts = and_parts (not (x == 10)) (has_no_feed a) p in
    rw (parts.0, no_feed_append a b parts.1 q) refl

-- a line that comes first is the first line
pub line_first : (front rest : List ℕ) → has_no_feed front ≡ true
    → lines_in (front ++ 10 ∷ rest) ≡ (front ++ 10 ∷ []) ∷ lines_in rest
line_first [] rest none = refl
line_first (b ∷ front) rest none =
    let parts = and_parts (not (b == 10)) (has_no_feed front) none in
    rw (not_so (b == 10) parts.0) (ap (begun b) (line_first front rest parts.1))

pub cut_first : (line rest : List ℕ) → EndsLine line → lines_in (line ++ rest) ≡ line ∷ lines_in rest
cut_first line rest ends =
    ap lines_in (ap (λ l. l ++ rest) ends.whole ∙ append_assoc ends.front (10 ∷ []) rest)
    ∙ line_first ends.front rest ends.no_feed ∙ ap (λ l. l ∷ lines_in rest) (sym ends.whole)

-- of two lines that come first, whatever follows, there is one
pub one_first : (line other rest more : List ℕ) → EndsLine line → EndsLine other → line ++ rest ≡ other ++ more
    → line ≡ other
one_first line other rest more p q same =
    ap (λ (l : List (List ℕ)). get_or l 0 []) (sym (cut_first line rest p) ∙ ap lines_in same ∙ cut_first other more q)

-- what has no line feed is no line that has one
pub unended : (bytes line rest : List ℕ) → has_no_feed bytes ≡ true → EndsLine line → bytes ≡ line ++ rest → ⊥
unended bytes line rest none ends same =
    let whole : bytes ≡ ends.front ++ 10 ∷ rest =
    same ∙ ap (λ l. l ++ rest) ends.whole ∙ append_assoc ends.front (10 ∷ []) rest in
    go ends.front (subst (λ (l : List ℕ). has_no_feed l ≡ true) whole none) where
      go : (front : List ℕ) → has_no_feed (front ++ 10 ∷ rest) ≡ true → ⊥
      go [] h = absurd cc
      go (b ∷ front) h = go front (and_parts (not (b == 10)) (has_no_feed (front ++ 10 ∷ rest)) h).1

-- the lines make the bytes
pub lines_whole : (bytes : List ℕ) → flat_map (λ (l : List ℕ). l) (lines_in bytes) ≡ bytes
lines_whole [] = refl
lines_whole (b ∷ bytes) = by (b == 10) refl (lines_whole bytes) where
  wide : (lines : List (List ℕ)) → flat_map (λ (l : List ℕ). l) (begun b lines)
      ≡ b ∷ flat_map (λ (l : List ℕ). l) lines
  wide [] = refl
  wide (line ∷ lines) = refl

  by : (t : Bool) → (b == 10) ≡ t → flat_map (λ (l : List ℕ). l) (lines_in bytes) ≡ bytes
      → flat_map (λ (l : List ℕ). l) (lines_in (b ∷ bytes)) ≡ b ∷ bytes
  by true is left = rw is (λ i. sym (eqb-true b 10 is) i ∷ left i)
  by false is left = rw is (wide (lines_in bytes) ∙ ap (λ l. b ∷ l) left)

-- ---- the lines of a record

abbrev piece_line : Stream → List ℕ → List ℕ
piece_line stream bytes = word_of stream ++ codes " " ++ encode_lower bytes ++ codes "\n"

front_of : Stream → List ℕ → List ℕ
front_of stream bytes = word_of stream ++ codes " " ++ encode_lower bytes

front_whole : (stream : Stream) (bytes : List ℕ) → piece_line stream bytes ≡ front_of stream bytes ++ 10 ∷ []
unfolding front_of
front_whole In bytes = refl
front_whole Out bytes = refl
front_whole Own bytes = refl

front_no_feed : (stream : Stream) (bytes : List ℕ) → has_no_feed (encode_lower bytes) ≡ true
    → has_no_feed (front_of stream bytes) ≡ true
unfolding front_of
front_no_feed In bytes none = none
front_no_feed Out bytes none = none
front_no_feed Own bytes none = none

pub entry_ends : (entry : Entry) → IsPiece entry.bytes → EndsLine (line_of entry)
entry_ends entry piece = record {
  front = front_of entry.stream entry.bytes;
  whole = front_whole entry.stream entry.bytes;
  no_feed = front_no_feed entry.stream entry.bytes (digits_no_feed entry.bytes piece.are_bytes);
}

pub status_small : (status : ℕ) → is_status status ≡ true → status < 256
status_small status is =
    elim (or_cases ((nat_le status 199 || status == 207) || status == 210) (status == 255) is) [
      | inl less ↦ elim (or_cases (nat_le status 199 || status == 207) (status == 210) less) [
        | inl few ↦ elim (or_cases (nat_le status 199) (status == 207) few) [
          | inl exit ↦ let e = leb-true status 199 exit in omega (arith, e)
          | inr bad ↦ let e = eqb-true status 207 bad in omega (arith, e)
        ]
        | inr stop ↦ let e = eqb-true status 210 stop in omega (arith, e)
      ]
      | inr cut ↦ let e = eqb-true status 255 cut in omega (arith, e)
    ]

pub end_ends : (status : ℕ) → is_status status ≡ true → EndsLine (end_line status)
end_ends status is =
    let small = status_small status is in
    record {
      front = codes "end " ++ decimal status;
      whole = sym (append_assoc (codes "end ") (decimal status) (10 ∷ []));
      no_feed = no_feed_append (codes "end ") (decimal status) refl (number_no_feed status (omega (arith, small)));
    }

-- the digits behind a word are those of one piece
one_tail : (a b : List ℕ) → IsPiece a → IsPiece b → encode_lower a ++ codes "\n" ≡ encode_lower b ++ codes "\n"
    → a ≡ b
one_tail a b p q same =
    one_spelling a b p.are_bytes q.are_bytes (append_cancel_right (encode_lower a) (encode_lower b) (codes "\n") same)

abbrev at_0 : List ℕ → ℕ
at_0 l = get_or l 0 0

abbrev at_1 : List ℕ → ℕ
at_1 l = get_or l 1 0

one_piece : (s t : Stream) (a b : List ℕ) → IsPiece a → IsPiece b → piece_line s a ≡ piece_line t b
    → (s ≡ t) × (a ≡ b)
one_piece In In a b p q same = (refl, one_tail a b p q (ap (drop 3) same))
one_piece Out Out a b p q same = (refl, one_tail a b p q (ap (drop 4) same))
one_piece Own Own a b p q same = (refl, one_tail a b p q (ap (drop 4) same))
one_piece In Out a b p q same = let e : 105 ≡ 111 = ap at_0 same in absurd (omega (arith, e))
one_piece In Own a b p q same = let e : 105 ≡ 111 = ap at_0 same in absurd (omega (arith, e))
one_piece Out In a b p q same = let e : 111 ≡ 105 = ap at_0 same in absurd (omega (arith, e))
one_piece Own In a b p q same = let e : 111 ≡ 105 = ap at_0 same in absurd (omega (arith, e))
one_piece Out Own a b p q same = let e : 117 ≡ 119 = ap at_1 same in absurd (omega (arith, e))
one_piece Own Out a b p q same = let e : 119 ≡ 117 = ap at_1 same in absurd (omega (arith, e))

-- two lines that are the same tell the same
pub one_entry : (e f : Entry) → IsPiece e.bytes → IsPiece f.bytes → line_of e ≡ line_of f → e ≡ f
one_entry e f p q same =
    let both = one_piece e.stream f.stream e.bytes f.bytes p q same in
    λ i. record { stream = both.0 i; bytes = both.1 i }

not_end : (s : Stream) (a tail : List ℕ) → piece_line s a ≡ codes "end " ++ tail → ⊥
not_end In a tail same = let e : 105 ≡ 101 = ap at_0 same in omega (arith, e)
not_end Out a tail same = let e : 111 ≡ 101 = ap at_0 same in omega (arith, e)
not_end Own a tail same = let e : 111 ≡ 101 = ap at_0 same in omega (arith, e)

-- no line that tells bytes is a last one
pub never_end : (entry : Entry) (status : ℕ) → line_of entry ≡ end_line status → ⊥
never_end entry status same = not_end entry.stream entry.bytes (decimal status ++ codes "\n") same

pub one_end_line : (s t : ℕ) → is_status s ≡ true → is_status t ≡ true → end_line s ≡ end_line t → s ≡ t
one_end_line s t p q same =
    let small = status_small s p in
    let other = status_small t q in
    one_number s t (omega (arith, small)) (omega (arith, other))
    (append_cancel_right (decimal s) (decimal t) (codes "\n") (ap (drop 4) same))

-- the lines of entries, and then those of the rest
pub entries_first : (entries : List Entry) (rest : List ℕ) → AllByRecursion (λ e. IsPiece e.bytes) entries
    → lines_in (flat_map line_of entries ++ rest) ≡ map line_of entries ++ lines_in rest
entries_first [] rest each = refl
entries_first (e ∷ entries) rest each =
    ap lines_in (append_assoc (line_of e) (flat_map line_of entries) rest)
    ∙ cut_first (line_of e) (flat_map line_of entries ++ rest) (entry_ends e each.0)
    ∙ ap (λ l. line_of e ∷ l) (entries_first entries rest each.1)

-- ---- lines that are none

-- behind the word of a last line no status is
pub no_number : (number : List ℕ) → ((n : ℕ) → is_status n ≡ true → number ≡ decimal n → ⊥)
    → IsNoLine (codes "end " ++ number ++ codes "\n")
no_number number none = record {
  reports_none = λ entry piece same. not_end entry.stream entry.bytes (number ++ codes "\n") (sym same);
  ends_none = λ n is same. none n is (append_cancel_right number (decimal n) (codes "\n") (ap (drop 4) same));
}

module _ (line text : List ℕ) (ends : line ≡ text ++ codes "\n") where
  -- before its line feed a line has what another has there
  before_feed : (front : List ℕ) → line ≡ front ++ codes "\n" → text ≡ front
  before_feed front same = append_cancel_right text front (codes "\n") (sym ends ∙ same)

  none_told : ((rest : List ℕ) → text ≡ codes "in " ++ rest → ⊥) → ((rest : List ℕ) → text ≡ codes "out " ++ rest → ⊥)
      → ((rest : List ℕ) → text ≡ codes "own " ++ rest → ⊥) → (stream : Stream) (bytes : List ℕ)
      → text ≡ front_of stream bytes → ⊥
  unfolding front_of
  none_told no_in no_out no_own In bytes is = no_in (encode_lower bytes) is
  none_told no_in no_out no_own Out bytes is = no_out (encode_lower bytes) is
  none_told no_in no_out no_own Own bytes is = no_own (encode_lower bytes) is

  -- no word of a line begins it
  pub no_word : ((rest : List ℕ) → text ≡ codes "in " ++ rest → ⊥) → ((rest : List ℕ) → text ≡ codes "out " ++ rest → ⊥)
      → ((rest : List ℕ) → text ≡ codes "own " ++ rest → ⊥) → ((rest : List ℕ) → text ≡ codes "end " ++ rest → ⊥)
      → IsNoLine line
  no_word no_in no_out no_own no_end = record {
    reports_none = λ entry piece same.
        none_told no_in no_out no_own entry.stream entry.bytes
        (before_feed (front_of entry.stream entry.bytes) (same ∙ front_whole entry.stream entry.bytes));
    ends_none = λ n is same.
        no_end (decimal n) (before_feed (codes "end " ++ decimal n)
        (same ∙ sym (append_assoc (codes "end ") (decimal n) (codes "\n"))));
  }
