-- The readers of references, values, attributes and start tags.
use Rattle.std.specs.declared.ops.ControlFlow.TheVariants.{Continue, Break}
use Rattle.std.proofs.Common.{◌≤◌, ◌≡◌, inl, inr, ℕ, zero, suc, ◌+◌, ◌-◌, ◌*◌, Bool, true, false, not, ◌||◌, ◌&&◌, List, [], ◌∷◌, ◌++◌, Option, Some, None, sym, refl, ap, ◌∙◌, subst, cond, nat_eq, nat_le, codes}
use Rattle.std.proofs.lemmas.Bool.{eq-eqb}
use Rattle.dp_markup.specs.inner.Input.{head, next, Reader, made, ◌>>◌, one, mark, word, closed}
use Rattle.dp_markup.specs.Rules.{Rule, Joined, ◌or◌, Made, One, passing, Mark, Word, Chain, Closed}
use Rattle.dp_markup.specs.Classes.{is_white, is_digit, is_plain_in_value, is_quote, within_byte, decimal_behind, hexadecimal_behind}
use Rattle.dp_markup.specs.Grammar.{Text, White, Spaced, Number, Named, Reference, Value}
use Rattle.dp_markup.specs.inner.Readers.{same, spaced_mark_step, spaced_mark, number_step, number, named, by_number, by_a, entity, reference, value_byte, value_step, quoted, value, spaced_value_step, spaced_value}
use Rattle.dp_grammar.proofs.Answers.{one_answers, joined_answers, equal_answers}
use Rattle.dp_markup.proofs.Answers.{Rules, Anything, JoinedAt, EitherAt, ClosedAt, StepAt, Answers, StartsIn, joined_starts, either_starts, wider_starts, same_level, give}
use Rattle.dp_markup.proofs.Loops.{step_stop, closed_answers}
use Rattle.dp_markup.proofs.Basics.{IsReader, apart_mark, mark_apart, apart_or, apart_white, or_left, or_right, passing_is, passing_starts, mark_of, before, behind_word, marked, behind_mark, named_of, named_is, word_starts, made_starts, joined_reads, made_reads, choose_reads, mark_then, named_reads, step_reads, takes_byte, white_piece, spaced_reads}

pub or_starts : {A : Type 0} (first second : Rules A) (s t : ℕ → Bool) → StartsIn first s → StartsIn second t
    → StartsIn (EitherAt first second) (λ b. s b || t b)
or_starts first second s t one other =
    either_starts first second (λ b. s b || t b) (wider_starts first s (λ b. s b || t b) (λ b. or_left (s b) (t b)) one)
    (wider_starts second t (λ b. s b || t b) (λ b. or_right (s b) (t b)) other)

-- ---- numbers

module _ (behind : ℕ → ℕ → Option ℕ) (t : ℕ → Bool) (digits : (n b a : ℕ) → behind n b ≡ Some a → t b ≡ true)
    (ends : t 59 ≡ false) (zero_is : behind 0 48 ≡ Some 0) where
  abbrev digit : ℕ → Rules ℕ
  digit n = λ _. One (behind n)

  abbrev last : ℕ → Rules ℕ
  last n = λ _. Made (Mark 59) (λ _. n)

  digit_starts : (n : ℕ) → StartsIn (digit n) t
  digit_starts n m text a o = (o.symbol, [], o.alone, digits n o.symbol a o.is_worth)

  last_starts : (n : ℕ) → StartsIn (last n) (same 59)
  last_starts n = made_starts (λ _. Mark 59) (λ _. n) (same 59) (passing_starts (same 59))

  number_steps : (level n : ℕ) → IsReader (StepAt digit last n) (step_stop Anything) level (number_step behind n)
  unfolding number_step
  number_steps level n =
      step_reads digit last (λ _. same 59) (λ _. t) Anything level last_starts digit_starts (λ _. mark_apart t 59 ends)
      (λ k. one (behind k)) (λ k. made (mark 59) (λ _. k))
      (λ k. one_answers ◌≤◌ same_level (behind k) Anything level)
      (λ k. made_reads (λ _. Mark 59) (λ _. k) Anything level (mark 59)
      (one_answers ◌≤◌ same_level (passing (same 59)) (λ _ _. true) level)) n

  some_end : (n : ℕ) → Closed (λ k. One (behind k)) (λ k. Made (Mark 59) (λ _. k)) n (59 ∷ []) n
  some_end n = record { count = 0; chain = give (Mark 59) (λ _. n) (59 ∷ []) 59 (mark_of 59) }

  pub number_reads : (level : ℕ) → IsReader (λ _. Number behind) Anything level (number behind)
  unfolding number
  number_reads level =
      joined_reads (λ _. One (behind 0)) (λ first. ClosedAt digit last first) Anything level (one (behind 0))
      (closed (number_step behind)) (one_answers ◌≤◌ same_level (behind 0) Anything level)
      (λ m above n. (59 ∷ [], n, some_end n))
      (closed_answers digit last Anything level (λ n. takes_byte (digit n) t (digit_starts n))
      (λ m above n. (59 ∷ [], n, give (Mark 59) (λ _. n) (59 ∷ []) 59 (mark_of 59))) (number_step behind)
      (number_steps level))

  pub number_starts : StartsIn (λ _. Number behind) t
  number_starts = joined_starts (digit 0) (λ first. ClosedAt digit last first) t (digit_starts 0)

  pub some_number : Number behind (48 ∷ 59 ∷ []) 0
  some_number =
      record {
        front = 48 ∷ [];
        back = 59
            ∷ [];
        value = 0;
        split = refl;
        one = record { symbol = 48; alone = refl; is_worth = zero_is };
        other = some_end 0;
      }

decimal_digits : (n b a : ℕ) → decimal_behind n b ≡ Some a → is_digit b ≡ true
unfolding decimal_behind
decimal_digits n b a = go (is_digit b) refl
  where
    go : (v : Bool) → is_digit b ≡ v → cond v (within_byte (n * 10 + (b - 48))) None ≡ Some a → is_digit b ≡ true
    go true is e = is
    go false is e = absurd (cc)

abbrev is_low : ℕ → Bool
is_low b = nat_le 97 b && nat_le b 102

abbrev is_high : ℕ → Bool
is_high b = nat_le 65 b && nat_le b 70

abbrev is_hexadecimal : ℕ → Bool
is_hexadecimal b = is_digit b || (is_low b || is_high b)

hexadecimal_digits : (n b a : ℕ) → hexadecimal_behind n b ≡ Some a → is_hexadecimal b ≡ true
unfolding hexadecimal_behind
hexadecimal_digits n b a = go (is_digit b) (is_low b) (is_high b) refl refl refl
  where
    go : (u v w : Bool) → is_digit b ≡ u → is_low b ≡ v → is_high b ≡ w
        → cond u (within_byte (n * 16 + (b - 48))) (cond v (within_byte (n * 16 + (b - 87)))
        (cond w (within_byte (n * 16 + (b - 55))) None)) ≡ Some a → is_hexadecimal b ≡ true
    go true v w du dv dw e = or_left (is_digit b) (is_low b || is_high b) du
    go false true w du dv dw e = or_right (is_digit b) (is_low b || is_high b) (or_left (is_low b) (is_high b) dv)
    go false false true du dv dw e = or_right (is_digit b) (is_low b || is_high b) (or_right (is_low b) (is_high b) dw)
    go false false false du dv dw e = absurd (cc)

decimal_zero : decimal_behind 0 48 ≡ Some 0
unfolding decimal_behind
decimal_zero = refl

hexadecimal_zero : hexadecimal_behind 0 48 ≡ Some 0
unfolding hexadecimal_behind
hexadecimal_zero = refl

-- ---- references, by the next byte

abbrev Hexadecimal : Rule ℕ
Hexadecimal = Joined (Mark 120) (λ _. Number hexadecimal_behind)

abbrev ByNumber : Rule ℕ
ByNumber = Hexadecimal or Number decimal_behind

abbrev ByA : Rule ℕ
ByA = Named (codes "mp;") 38 or Named (codes "pos;") 39

abbrev Tail_g : Rule ℕ
Tail_g = Named (codes "gt;") 62 or Named (codes "quot;") 34

abbrev Tail_l : Rule ℕ
Tail_l = Named (codes "lt;") 60 or Tail_g

abbrev Tail_a : Rule ℕ
Tail_a = Joined (Mark 97) (λ _. ByA) or Tail_l

abbrev Entity : Rule ℕ
Entity = Joined (Mark 35) (λ _. ByNumber) or Tail_a

abbrev in_g : ℕ → Bool
in_g b = same 103 b || same 113 b

abbrev in_l : ℕ → Bool
in_l b = same 108 b || in_g b

abbrev in_a : ℕ → Bool
in_a b = same 97 b || in_l b

named_starts : (c : ℕ) (cs : Text) (v : ℕ) → StartsIn (λ _. Named (c ∷ cs) v) (same c)
named_starts c cs v = made_starts (λ _. Word (c ∷ cs)) (λ _. v) (same c) (word_starts c cs)

mark_joined_starts : {A : Type 0} (c : ℕ) (rule : Rules A) → StartsIn (JoinedAt (λ _. Mark c) (λ _. rule)) (same c)
mark_joined_starts c rule = joined_starts (λ _. Mark c) (λ _. rule) (same c) (passing_starts (same c))

by_number_reads : (level : ℕ) → IsReader (λ _. ByNumber) Anything level by_number
unfolding by_number
by_number_reads level =
    choose_reads (λ _. Hexadecimal) (λ _. Number decimal_behind) (same 120) is_digit Anything level
    (mark 120 >> number hexadecimal_behind) (number decimal_behind)
    (mark_joined_starts 120 (λ _. Number hexadecimal_behind))
    (number_starts decimal_behind is_digit decimal_digits refl decimal_zero) (mark_apart is_digit 120 refl)
    (mark_then 120 (λ _. Number hexadecimal_behind) Anything level (number hexadecimal_behind)
    (λ m _. (
      48 ∷ 59
          ∷ [],
      0,
      some_number hexadecimal_behind is_hexadecimal hexadecimal_digits refl hexadecimal_zero,
    ))
    (number_reads hexadecimal_behind is_hexadecimal hexadecimal_digits refl hexadecimal_zero level))
    (number_reads decimal_behind is_digit decimal_digits refl decimal_zero level)

by_a_reads : (level : ℕ) → IsReader (λ _. ByA) Anything level by_a
unfolding by_a named
by_a_reads level =
    choose_reads (λ _. Named (codes "mp;") 38) (λ _. Named (codes "pos;") 39) (same 109) (same 112) Anything level
    (made (word (codes "mp;")) (λ _. 38)) (made (word (codes "pos;")) (λ _. 39))
    (named_starts 109 (codes "p;") 38) (named_starts 112 (codes "os;") 39) (mark_apart (same 112) 109 refl)
    (named_reads (codes "mp;") 38 level) (named_reads (codes "pos;") 39 level)

g_starts : StartsIn (λ _. Tail_g) in_g
g_starts =
    or_starts (λ _. Named (codes "gt;") 62) (λ _. Named (codes "quot;") 34) (same 103) (same 113)
    (named_starts 103 (codes "t;") 62) (named_starts 113 (codes "uot;") 34)

l_starts : StartsIn (λ _. Tail_l) in_l
l_starts =
    or_starts (λ _. Named (codes "lt;") 60) (λ _. Tail_g) (same 108) in_g (named_starts 108 (codes "t;") 60) g_starts

a_starts : StartsIn (λ _. Tail_a) in_a
a_starts =
    or_starts (λ _. Joined (Mark 97) (λ _. ByA)) (λ _. Tail_l) (same 97) in_l
    (mark_joined_starts 97 (λ _. ByA)) l_starts

abbrev reader_g : Reader ℕ
reader_g ts =
    cond (next (same 103) (head ts)) (made (word (codes "gt;")) (λ _. 62) ts) (made (word (codes "quot;")) (λ _. 34) ts)

abbrev reader_l : Reader ℕ
reader_l ts = cond (next (same 108) (head ts)) (made (word (codes "lt;")) (λ _. 60) ts) (reader_g ts)

abbrev reader_a : Reader ℕ
reader_a ts = cond (next (same 97) (head ts)) ((mark 97 >> by_a) ts) (reader_l ts)

entity_reads : (level : ℕ) → IsReader (λ _. Entity) Anything level entity
unfolding entity named
entity_reads level =
    let g : IsReader (λ _. Tail_g) Anything level reader_g = choose_reads (λ _. Named (codes "gt;") 62)
    (λ _. Named (codes "quot;") 34) (same 103) (same 113) Anything level (made (word (codes "gt;")) (λ _. 62))
    (made (word (codes "quot;")) (λ _. 34))
    (named_starts 103 (codes "t;") 62) (named_starts 113 (codes "uot;") 34) (mark_apart (same 113) 103 refl)
    (named_reads (codes "gt;") 62 level) (named_reads (codes "quot;") 34 level) in
    let l : IsReader (λ _. Tail_l) Anything level reader_l = choose_reads (λ _. Named (codes "lt;") 60) (λ _. Tail_g)
    (same 108) in_g Anything level (made (word (codes "lt;")) (λ _. 60)) reader_g
    (named_starts 108 (codes "t;") 60) g_starts (mark_apart in_g 108 refl) (named_reads (codes "lt;") 60 level) g in
    let a : IsReader (λ _. Tail_a) Anything level reader_a = choose_reads (λ _. Joined (Mark 97) (λ _. ByA))
    (λ _. Tail_l) (same 97) in_l Anything level (mark 97 >> by_a) reader_l
    (mark_joined_starts 97 (λ _. ByA)) l_starts (mark_apart in_l 97 refl)
    (mark_then 97 (λ _. ByA) Anything level by_a (λ m _. (codes "mp;", 38, inl (named_of (codes "mp;") 38)))
    (by_a_reads level)) l in
    choose_reads (λ _. Joined (Mark 35) (λ _. ByNumber)) (λ _. Tail_a) (same 35) in_a Anything level
    (mark 35 >> by_number) reader_a
    (mark_joined_starts 35 (λ _. ByNumber)) a_starts (mark_apart in_a 35 refl)
    (mark_then 35 (λ _. ByNumber) Anything level by_number (λ m _.
    (48 ∷ 59 ∷ [], 0, inr (some_number decimal_behind is_digit decimal_digits refl decimal_zero)))
    (by_number_reads level)) a

-- a name of a byte behind its first bytes, as the whole
whole_name : (w cs : Text) (v : ℕ) (text back : Text) (a : ℕ) → text ≡ w ++ back → Named cs v back a
    → Named (w ++ cs) v text a
whole_name w cs v text back a e h =
    let n = named_is cs v back a h in
    subst (λ b. Named (w ++ cs) v text b) (sym n.1) (subst (λ l. Named (w ++ cs) v l v) (sym (e ∙ ap (λ l. w ++ l) n.0))
    (named_of (w ++ cs) v))

part_name : (w cs : Text) (v : ℕ) (text : Text) (a : ℕ) → Named (w ++ cs) v text a → (text ≡ w ++ cs) × Named cs v cs a
part_name w cs v text a h =
    let n = named_is (w ++ cs) v text a h in (n.0, subst (λ b. Named cs v cs b) (sym n.1) (named_of cs v))

to_reference : (text : Text) (a : ℕ) → Joined (Mark 38) (λ _. Entity) text a → Reference text a
to_reference text a j = let m = behind_mark 38 Entity text a j in go m.0 m.1 m.2
  where
    go : (back : Text) → text ≡ 38 ∷ back → Entity back a → Reference text a
    go back e (inl h) =
        let n = behind_mark 35 ByNumber back a h in
        let there : text ≡ 38 ∷ 35 ∷ n.0 = e ∙ ap (λ l. 38 ∷ l) n.1 in
        elim n.2 [
          | inl x ↦ (let y = behind_mark 120 (Number hexadecimal_behind) n.0 a x in
              inr (inr (inr (inr (inr (inl (subst (λ l. Joined (Word (codes "&#x")) (λ _. Number hexadecimal_behind) l
              a) (sym (there ∙ ap (λ l. 38 ∷ 35 ∷ l) y.1))
              (before (codes "&#x") (Number hexadecimal_behind) y.0 a y.2))))))))
          | inr d ↦ inr (inr (inr (inr (inr (inr (subst (λ l. Joined (Word (codes "&#")) (λ _. Number decimal_behind) l
              a) (sym there) (before (codes "&#") (Number decimal_behind) n.0 a d)))))))
        ]
    go back e (inr (inl h)) =
        let n = behind_mark 97 ByA back a h in
        let there : text ≡ 38 ∷ 97 ∷ n.0 = e ∙ ap (λ l. 38 ∷ l) n.1 in
        elim n.2 [
          | inl x ↦ inl (whole_name (codes "&a") (codes "mp;") 38 text n.0 a there x)
          | inr x ↦ inr (inr (inr (inr (inl (whole_name (codes "&a") (codes "pos;") 39 text n.0 a there x)))))
        ]
    go back e (inr (inr (inl h))) = inr (inl (whole_name (codes "&") (codes "lt;") 60 text back a e h))
    go back e (inr (inr (inr (inl h)))) = inr (inr (inl (whole_name (codes "&") (codes "gt;") 62 text back a e h)))
    go back e (inr (inr (inr (inr h)))) =
        inr (inr (inr (inl (whole_name (codes "&") (codes "quot;") 34 text back a e h))))

abbrev Factored : Rule ℕ
Factored = Joined (Mark 38) (λ _. Entity)

and_back : (back text : Text) (a : ℕ) → text ≡ 38 ∷ back → Entity back a → Factored text a
and_back back text a e h = subst (λ l. Factored l a) (sym e) (marked 38 Entity back a h)

from_reference : (text : Text) (a : ℕ) → Reference text a → Joined (Mark 38) (λ _. Entity) text a
from_reference text a (inl h) =
    let p = part_name (codes "&a") (codes "mp;") 38 text a h in and_back (97 ∷ codes "mp;") text a p.0
    (inr (inl (marked 97 ByA (codes "mp;") a (inl p.1))))
from_reference text a (inr (inl h)) =
    let p = part_name (codes "&") (codes "lt;") 60 text a h in and_back (codes "lt;") text a p.0 (inr (inr (inl p.1)))
from_reference text a (inr (inr (inl h))) =
    let p = part_name (codes "&") (codes "gt;") 62 text a h in and_back (codes "gt;") text a p.0
    (inr (inr (inr (inl p.1))))
from_reference text a (inr (inr (inr (inl h)))) =
    let p = part_name (codes "&") (codes "quot;") 34 text a h in and_back (codes "quot;") text a p.0
    (inr (inr (inr (inr p.1))))
from_reference text a (inr (inr (inr (inr (inl h))))) =
    let p = part_name (codes "&a") (codes "pos;") 39 text a h in and_back (97 ∷ codes "pos;") text a p.0
    (inr (inl (marked 97 ByA (codes "pos;") a (inr p.1))))
from_reference text a (inr (inr (inr (inr (inr (inl h)))))) =
    let b = behind_word (codes "&#x") (Number hexadecimal_behind) text a h in
    and_back (35 ∷ 120
    ∷ b.0) text a b.1 (inl (marked 35 ByNumber (120 ∷ b.0) a
    (inl (marked 120 (Number hexadecimal_behind) b.0 a b.2))))
from_reference text a (inr (inr (inr (inr (inr (inr h)))))) =
    let b = behind_word (codes "&#") (Number decimal_behind) text a h in
    and_back (35 ∷ b.0) text a b.1 (inl (marked 35 ByNumber b.0 a (inr b.2)))

pub reference_reads : (level : ℕ) → IsReader (λ _. Reference) Anything level reference
unfolding reference
reference_reads level ts =
    equal_answers ◌≤◌ same_level (λ _. Factored) (λ _. Reference) Anything level ts (λ m. to_reference)
    (λ m. from_reference) ((mark 38 >> entity) ts)
    (mark_then 38 (λ _. Entity) Anything level entity (λ m _.
    (codes "lt;", 60, inr (inr (inl (named_of (codes "lt;") 60))))) (entity_reads level) ts)

pub reference_starts : StartsIn (λ _. Reference) (same 38)
reference_starts m text a h = mark_joined_starts 38 (λ _. Entity) m text a (from_reference text a h)

-- ---- values

abbrev value_piece : ℕ → Text → Rules Text
value_piece quote v = λ _. Made (Reference or One (passing (is_plain_in_value quote))) (λ b. v ++ b ∷ [])

abbrev value_end : ℕ → Text → Rules Text
value_end quote v = λ _. Made (Mark quote) (λ _. v)

abbrev in_value : ℕ → ℕ → Bool
in_value quote b = same 38 b || is_plain_in_value quote b

value_bytes_start : (quote : ℕ) → StartsIn (λ _. Reference or One (passing (is_plain_in_value quote))) (in_value quote)
value_bytes_start quote =
    or_starts (λ _. Reference) (λ _. One (passing (is_plain_in_value quote))) (same 38)
    (is_plain_in_value quote) reference_starts (passing_starts (is_plain_in_value quote))

value_byte_reads : (quote level : ℕ)
    → IsReader (λ _. Reference or One (passing (is_plain_in_value quote))) Anything level (value_byte quote)
unfolding value_byte
value_byte_reads quote level =
    choose_reads (λ _. Reference) (λ _. One (passing (is_plain_in_value quote))) (same 38)
    (is_plain_in_value quote) Anything level reference (one (passing (is_plain_in_value quote)))
    reference_starts (passing_starts (is_plain_in_value quote)) (mark_apart (is_plain_in_value quote) 38 refl)
    (reference_reads level) (one_answers ◌≤◌ same_level (passing (is_plain_in_value quote)) Anything level)

or_false : (u v : Bool) → u ≡ false → v ≡ false → (u || v) ≡ false
or_false u v one other = ap (λ x. x || v) one ∙ other

or_true_right : (u v : Bool) → v ≡ true → not (u || v) ≡ false
or_true_right u v is = ap not (or_right u v is)

-- a quote is neither `&` nor a plain byte of its value
quote_ends : (quote : ℕ) → is_quote quote ≡ true → in_value quote quote ≡ false
quote_ends quote is = or_false (same 38 quote) (is_plain_in_value quote quote)
    (apart_or (same 34) (same 39) (same 38) (apart_mark (same 38) 34 refl) (apart_mark (same 38) 39 refl) quote is)
    (or_true_right (nat_eq quote 60 || nat_eq quote 38) (nat_eq quote quote) (eq-eqb quote quote refl))

some_value_end : (quote : ℕ) (v : Text) → Made (Mark quote) (λ _. v) (quote ∷ []) v
some_value_end quote v = give (Mark quote) (λ _. v) (quote ∷ []) quote (mark_of quote)

value_steps : (quote : ℕ) → is_quote quote ≡ true → (level : ℕ) (v : Text)
    → IsReader (StepAt (value_piece quote) (value_end quote) v) (step_stop Anything) level (value_step quote v)
unfolding value_step
value_steps quote is level v =
    step_reads (value_piece quote) (value_end quote) (λ _. same quote) (λ _. in_value quote) Anything level
    (λ x. made_starts (λ _. Mark quote) (λ _. x) (same quote) (passing_starts (same quote)))
    (λ x. made_starts (λ _. Reference or One (passing (is_plain_in_value quote))) (λ b. x ++ b ∷ []) (in_value quote)
    (value_bytes_start quote))
    (λ _. mark_apart (in_value quote) quote (quote_ends quote is))
    (λ x. made (value_byte quote) (λ b. x ++ b ∷ [])) (λ x. made (mark quote) (λ _. x))
    (λ x. made_reads (λ _. Reference or One (passing (is_plain_in_value quote))) (λ b. x ++ b ∷ []) Anything level
    (value_byte quote) (value_byte_reads quote level))
    (λ x. made_reads (λ _. Mark quote) (λ _. x) Anything level (mark quote)
    (one_answers ◌≤◌ same_level (passing (same quote)) (λ _ _. true) level)) v

quoted_reads : (quote : ℕ) → is_quote quote ≡ true → (level : ℕ)
    → IsReader (ClosedAt (value_piece quote) (value_end quote) []) Anything level (quoted quote)
unfolding quoted
quoted_reads quote is level = closed_answers (value_piece quote) (value_end quote) Anything level
    (λ x. takes_byte (value_piece quote x) (in_value quote) (made_starts
    (λ _. Reference or One (passing (is_plain_in_value quote))) (λ b. x ++ b ∷ []) (in_value quote)
    (value_bytes_start quote)))
    (λ m above x. (quote ∷ [], x, some_value_end quote x)) (value_step quote) (value_steps quote is level) []

value_reads : (level : ℕ) → IsReader (λ _. Value) Anything level value
unfolding value
value_reads level ts =
    joined_answers ◌≤◌ same_level (λ _. One (passing is_quote))
    (λ quote. ClosedAt (value_piece quote) (value_end quote) []) Anything Anything level ts (λ m a us b r h is. refl)
    (one (passing is_quote) ts) quoted (λ m above quote. (
      quote
          ∷ [],
      [],
      record { count = 0; chain = some_value_end quote [] },
    ))
    (one_answers ◌≤◌ same_level (passing is_quote) Anything level ts)
    (λ quote r read. let o = read.spelled level (same_level level) in
    let p = passing_is is_quote o.symbol quote o.is_worth in
    quoted_reads quote (ap is_quote p.1 ∙ p.0) level r)

value_starts : StartsIn (λ _. Value) is_quote
value_starts =
    joined_starts (λ _. One (passing is_quote)) (λ quote. ClosedAt (value_piece quote) (value_end quote) []) is_quote
    (passing_starts is_quote)

pub some_value : Value (34 ∷ 34 ∷ []) []
some_value =
    record {
      front = 34 ∷ [];
      back = 34
          ∷ [];
      value = 34;
      split = refl;
      one = mark_quote;
      other = record { count = 0; chain = some_value_end 34 [] };
    }
  where
    mark_quote : One (passing is_quote) (34 ∷ []) 34
    mark_quote = record { symbol = 34; alone = refl; is_worth = refl }

-- ---- attributes

pub spaced_mark_reads : (c : ℕ) → ((b : ℕ) → is_white b ≡ true → same c b ≡ false) → (level : ℕ)
    → IsReader (λ _. Spaced (Mark c)) Anything level (spaced_mark c)
unfolding spaced_mark
spaced_mark_reads c apart level =
    spaced_reads (λ _. Mark c) (same c) Anything level (mark c) (passing_starts (same c)) apart
    (λ m _. (c ∷ [], c, mark_of c)) (one_answers ◌≤◌ same_level (passing (same c)) Anything level)
    (spaced_mark_step c) is_step
  where
    is_step : (u : Unit {0}) (ts : Text)
        → Answers (StepAt white_piece (λ _ _. Mark c) u) (step_stop Anything) level ts
        (cond (next (same c) (head ts)) (made (mark c) Break ts)
        (made (made (one (passing is_white)) (λ _. tt)) Continue ts))
        → Answers (StepAt white_piece (λ _ _. Mark c) u) (step_stop Anything) level ts (spaced_mark_step c u ts)
    is_step u ts h = unfold spaced_mark_step in h

pub spaced_value_reads : (level : ℕ) → IsReader (λ _. Spaced Value) Anything level spaced_value
unfolding spaced_value
spaced_value_reads level =
    spaced_reads (λ _. Value) is_quote Anything level value value_starts (apart_white is_quote refl refl refl refl)
    (λ m _. (34 ∷ 34 ∷ [], [], some_value)) (value_reads level) spaced_value_step is_step
  where
    is_step : (u : Unit {0}) (ts : Text)
        → Answers (StepAt white_piece (λ _ _. Value) u) (step_stop Anything) level ts
        (cond (next is_quote (head ts)) (made value Break ts)
        (made (made (one (passing is_white)) (λ _. tt)) Continue ts))
        → Answers (StepAt white_piece (λ _ _. Value) u) (step_stop Anything) level ts (spaced_value_step u ts)
    is_step u ts h = unfold spaced_value_step in h

pub spaced_starts : {A : Type 0} (rule : Rules A) (s : ℕ → Bool) → StartsIn rule s
    → StartsIn (λ m. Spaced (rule m)) (λ b. is_white b || s b)
spaced_starts rule s starts m text a c = go c.count c.chain
  where
    go : (count : ℕ) → Chain (λ (u : Unit {0}). Made White (λ _. tt)) (λ _. rule m) count tt text a
        → (x : ℕ) × (rest : List ℕ) × (text ≡ x ∷ rest) × ((is_white x || s x) ≡ true)
    go zero h = let x = starts m text a h in (x.0, x.1, x.2, or_right (is_white x.0) (s x.0) x.3)
    go (suc count) j =
        let x = made_starts (λ _. White) (λ _. tt) is_white (passing_starts is_white) m j.front j.value j.one in
        (x.0, x.1 ++ j.back, j.split ∙ ap (λ l. l ++ j.back) x.2, or_left (is_white x.0) (s x.0) x.3)
