-- Words of a line: what stands before a blank, and numbers.
use Rattle.std.proofs.Common.{◌≡◌, ℕ, zero, suc, ◌+◌, ◌-◌, ◌^◌, ◌<◌, ◌≤◌, ◌==◌, Bool, true, false, not, ◌&&◌, cond, List, [], ◌∷◌, ◌++◌, length}
use Rattle.std.proofs.Common.{take, drop, get_or, Option, Some, None, nat_le, codes, decimal, refl, sym, ap, ◌∙◌, inl, inr, arith, rules}
use Rattle.std.proofs.lemmas.Bool.{and_parts, or_cases, leb-true, le-leb, eqb-true, not-true, or_right}
use Rattle.std.proofs.lemmas.Bool.Decides.{nat_tests}
use Rattle.std.proofs.lemmas.Fmt.{digits_decimal, digits_value-decimal, decimal-digits_value, decimal_digit, first_decimal}
use Rattle.std.proofs.lemmas.List.{take_rest}
use Rattle.std.proofs.lemmas.Option.{same_Some, cond_some}
use Rattle.std.proofs.lemmas.Slice.Eq.{bytes_eq-Decides}
use Rattle.std.proofs.lemmas.Str.Parse.{IsNumeralModel, numerals_by_value}
use Rattle.std.specs.Char.{is_ascii_digit}
use Rattle.std.specs.List.{list_all}
use Rattle.std.specs.Str.{bytes_eq}
use Rattle.std.specs.Str.Parse.{digits_value}
use Rattle.dp_bytes.specs.Decimals.{is_decimal, decimal_in}
use Rattle.dp_bytes.specs.IntText.{is_positive}
use Rattle.dp_grammar.proofs.Runs.{not_zero}
use Rattle.dp_grammar.specs.Lines.{has_no_blank}
use Rattle.dp_events.specs.Lists.{link_limit}
use Rattle.dp_events.specs.inner.Spelling.{split_word, word_of, part_of, FirstBlank, link_in}

-- ---- blanks

head : (b : ℕ) (bs : List ℕ) → has_no_blank (b ∷ bs) ≡ true → (b == 32) ≡ false
head b bs h = not-true _ (and_parts _ (has_no_blank bs) h).0

tail : (b : ℕ) (bs : List ℕ) → has_no_blank (b ∷ bs) ≡ true → has_no_blank bs ≡ true
tail b bs h = (and_parts (not (b == 32)) (has_no_blank bs) h).1

abbrev Cut : Type 0
Cut = List ℕ × Option (List ℕ)

cut : (word rest : List ℕ) → has_no_blank word ≡ true → split_word (word ++ 32 ∷ rest) ≡ (word, Some rest)
cut [] rest h = refl
cut (b ∷ word) rest h = rw (head b word h, cut word rest (tail b word h)) refl

uncut : (word : List ℕ) → has_no_blank word ≡ true → split_word word ≡ (word, None)
uncut [] h = refl
uncut (b ∷ word) h = rw (head b word h, uncut word (tail b word h)) refl

module _ (word : List ℕ) (free : has_no_blank word ≡ true) where
  pub word_before : (rest : List ℕ) → word_of (word ++ 32 ∷ rest) ≡ word
  word_before rest = ap (λ (c : Cut). c.0) (cut word rest free)

  pub part_behind : (rest : List ℕ) → part_of (word ++ 32 ∷ rest) ≡ Some rest
  part_behind rest = ap (λ (c : Cut). c.1) (cut word rest free)

  pub word_alone : word_of word ≡ word
  word_alone = ap (λ (c : Cut). c.0) (uncut word free)

  pub no_part : part_of word ≡ None
  no_part = ap (λ (c : Cut). c.1) (uncut word free)

module _ (bytes : List ℕ) (at : ℕ) (first : FirstBlank bytes (Some at)) where
  pub word_is : take at bytes ≡ word_of bytes
  word_is = sym (ap word_of first.1 ∙ word_before (take at bytes) first.0 (drop (at + 1) bytes))

  pub part_is : Some (take (length bytes - (at + 1)) (drop (at + 1) bytes)) ≡ part_of bytes
  part_is =
      ap Some (take_rest bytes (at + 1))
      ∙ sym (ap part_of first.1 ∙ part_behind (take at bytes) first.0 (drop (at + 1) bytes))

abbrev joined : List ℕ → Option (List ℕ) → List ℕ
joined word None = word
joined word (Some part) = word ++ 32 ∷ part

longer : (b : ℕ) (word : List ℕ) (part : Option (List ℕ)) → b ∷ joined word part ≡ joined (b ∷ word) part
longer b word None = refl
longer b word (Some part) = refl

-- the first byte is the blank, or before it
abbrev behind : ℕ → List ℕ → Bool → Cut
behind b line blank = cond blank ([], Some line) (b ∷ word_of line, part_of line)

rejoined : (line : List ℕ) → line ≡ joined (word_of line) (part_of line)
rejoined [] = refl
rejoined (b ∷ line) = by (rejoined line) (b == 32) refl where
  by : line ≡ joined (word_of line) (part_of line) → (t : Bool) → (b == 32) ≡ t
      → b ∷ line ≡ joined (behind b line t).0 (behind b line t).1
  by left true p = ap (λ c. c ∷ line) (eqb-true b 32 p)
  by left false p = ap (λ l. b ∷ l) left ∙ longer b (word_of line) (part_of line)

pub with_part : (line rest : List ℕ) → part_of line ≡ Some rest → line ≡ word_of line ++ 32 ∷ rest
with_part line rest e = rejoined line ∙ ap (joined (word_of line)) e

pub without_part : (line : List ℕ) → part_of line ≡ None → line ≡ word_of line
without_part line e = rejoined line ∙ ap (joined (word_of line)) e

-- ---- numbers

abbrev Digits : List ℕ → Type 0
Digits ds = list_all is_ascii_digit ds ≡ true

own : IsNumeralModel Digits (digits_value 10)
own = numerals_by_value Digits (search rules)

first_not : (ds : List ℕ) → 48 < get_or ds 0 0 → Digits ds → is_positive ds ≡ true
first_not [] first all = absurd (omega arith)
first_not (d ∷ ds) first all = let other : (d == 48) ≡ false = grind (arith, nat_tests) in rw (other, all) refl

positive : (n : ℕ) → 0 < n → n < 2 ^ 64 → is_positive (decimal n) ≡ true
positive n some small = first_not (decimal n) (first_decimal n some small) (digits_decimal own n small)

zero_text : decimal 0 ≡ 48 ∷ []
zero_text = decimal_digit 0 (omega arith)

decimal_decimal : (n : ℕ) → n < 2 ^ 64 → is_decimal (decimal n) ≡ true
decimal_decimal zero small = rw zero_text refl
decimal_decimal (suc n) small =
    or_right (bytes_eq (decimal (suc n)) (codes "0")) (is_positive (decimal (suc n)))
    (positive (suc n) (omega arith) small)

pub number_again : (most n : ℕ) → n ≤ most → most < 2 ^ 64 → decimal_in most (decimal n) ≡ Some n
unfolding decimal_in
number_again most n within small =
    let less : n < 2 ^ 64 = omega arith in
    let value : digits_value 10 (decimal n) ≡ n = digits_value-decimal own n less in
    let fits : nat_le n most ≡ true = le-leb n most within in
    rw (decimal_decimal n less, value, fits) refl

pub record IsNumber (most : ℕ) (text : List ℕ) (n : ℕ) : Type 0 where
  pub spelled : text ≡ decimal n
  pub within : n ≤ most

positive_digits : (text : List ℕ) → is_positive text ≡ true
    → Digits text × (0 < length text) × (get_or text 0 0 ≡ 48 → length text ≡ 1)
positive_digits [] h = absurd cc
positive_digits (c ∷ cs) h =
    let parts = and_parts (not (c == 48)) (list_all is_ascii_digit (c ∷ cs)) h in
    let other : (c == 48) ≡ false = not-true _ parts.0 in
    (parts.1, omega arith, λ e. let yes : (c == 48) ≡ true = grind (arith, nat_tests) in absurd (cc))

spelled_again : (text : List ℕ) → is_decimal text ≡ true → digits_value 10 text < 2 ^ 64
    → text ≡ decimal (digits_value 10 text)
spelled_again text h small = elim (or_cases (bytes_eq text (codes "0")) (is_positive text) h) [
  | inl none ↦ let same : text ≡ codes "0" = (bytes_eq-Decides text (codes "0")).0 none in rw same (sym zero_text)
  | inr some ↦ let d = positive_digits text some in sym (decimal-digits_value own text d.0 d.1 d.2 small)
]

pub number_is : (most n : ℕ) (text : List ℕ) → most < 2 ^ 64 → decimal_in most text ≡ Some n → IsNumber most text n
unfolding decimal_in
number_is most n text small e =
    let parts = cond_some (is_decimal text && nat_le (digits_value 10 text) most) (digits_value 10 text) n e in
    let tests = and_parts (is_decimal text) (nat_le (digits_value 10 text) most) parts.0 in
    let within : digits_value 10 text ≤ most = leb-true _ _ tests.1 in
    record {
      spelled = spelled_again text tests.0 (omega arith) ∙ ap decimal parts.1;
      within = let same = parts.1 in omega arith;
    }

no_blank_digit : (c : ℕ) → is_ascii_digit c ≡ true → (c == 32) ≡ false
no_blank_digit c d = grind (arith, nat_tests)

no_blanks : (ds : List ℕ) → Digits ds → has_no_blank ds ≡ true
no_blanks [] all = refl
no_blanks (d ∷ ds) all =
    let parts = and_parts (is_ascii_digit d) (list_all is_ascii_digit ds) all in
    rw (no_blank_digit d parts.0, no_blanks ds parts.1) refl

pub number_blank : (n : ℕ) → n < 2 ^ 64 → has_no_blank (decimal n) ≡ true
number_blank n small = no_blanks (decimal n) (digits_decimal own n small)

-- ---- links

pub link_again : (n : ℕ) → 1 ≤ n → n ≤ link_limit → link_in (decimal n) ≡ Some n
link_again n some within = rw (number_again link_limit n within (omega arith), not_zero n some) refl

pub record IsLink (text : List ℕ) (n : ℕ) : Type 0 where
  pub spelled : text ≡ decimal n
  pub some : 1 ≤ n
  pub within : n ≤ link_limit

unless_zero : (m n : ℕ) (t : Bool) → (m == 0) ≡ t → cond t None (Some m) ≡ Some n → (1 ≤ m) × (m ≡ n)
unless_zero m n true e f = absurd cc
unless_zero m n false e f = (grind (arith, nat_tests), same_Some m n f)

pub link_is : (text : List ℕ) (n : ℕ) → link_in text ≡ Some n → IsLink text n
link_is text n e = by (decimal_in link_limit text) refl e where
  by : (o : Option ℕ) → decimal_in link_limit text ≡ o → link_in text ≡ Some n → IsLink text n
  by None p e = let no : None ≡ Some n = rw p at e in absurd cc
  by (Some m) p e =
      let found : cond (m == 0) None (Some m) ≡ Some n = rw p at e in
      let other = unless_zero m n (m == 0) refl found in
      let is = number_is link_limit m text (omega arith) p in
      let some = other.0 in
      let same = other.1 in
      let fits = is.within in
      record { spelled = is.spelled ∙ ap decimal same; some = omega arith; within = omega arith }
