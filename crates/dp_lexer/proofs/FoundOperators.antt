-- The first bytes of pieces, and the operators.
use Rattle.std.proofs.Common.{◌≡◌, ◌≢◌, ◌⊎◌, inl, inr, ℕ, Bool, true, false, ◌&&◌, ◌||◌, ◌==◌, List, [], ◌∷◌, Some, refl, ap, ◌∙◌, subst, cond, arith, eqb-true}
use Rattle.std.proofs.lemmas.Bool.Decides.{nat_tests}
use Rattle.dp_lexer.specs.declared.class.Class.{Class}
use Rattle.dp_lexer.specs.declared.class.Class.TheVariants as class
use Rattle.dp_lexer.specs.declared.token.Word.{Word}
use Rattle.dp_lexer.specs.Bytes.{is_space, is_digit, is_start}
use Rattle.dp_lexer.specs.Operators.{look_up, look_up_two, look_up_three, one_byte_operators, two_byte_operators, three_byte_operators, one_byte, two_bytes, three_bytes, operator_of}
use Rattle.dp_lexer.specs.inner.Lexer.{class_of}
use Rattle.dp_lexer.proofs.Runs.{and_parts, false_test}

-- ---- classes

digit_no_start : (b : ℕ) → is_digit b ≡ true → is_start b ≡ false
digit_no_start b is = grind (arith, nat_tests)

pub class_of_name : (b : ℕ) → is_start b ≡ true → class_of b ≡ class.Name
class_of_name b is = simp is

pub class_of_number : (b : ℕ) → is_digit b ≡ true → class_of b ≡ class.Number
class_of_number b is = let start = digit_no_start b is in simp (start, is)

pub class_of_space : (b : ℕ) → is_space b ≡ true → class_of b ≡ class.Space
class_of_space b is =
    let start : is_start b ≡ false = grind (arith, nat_tests) in let digit : is_digit b ≡ false = grind
    (arith, nat_tests) in simp (start, digit, is)

-- what a class says of a byte
pub record OtherByte (b : ℕ) : Type 0 where
  pub start : is_start b ≡ false
  pub digit : is_digit b ≡ false
  pub space : is_space b ≡ false
  pub hash : b ≢ 35
  pub slash : b ≢ 47
  pub dollar : b ≢ 36
  pub single : b ≢ 39
  pub double : b ≢ 34

abbrev pub IsOfClass : Class → ℕ → Type 0
IsOfClass class.Name b = is_start b ≡ true
IsOfClass class.Number b = is_digit b ≡ true
IsOfClass class.Space b = is_space b ≡ true
IsOfClass class.Hash b = b ≡ 35
IsOfClass class.Slash b = b ≡ 47
IsOfClass class.Dollar b = b ≡ 36
IsOfClass class.Quote b = (b ≡ 39) ⊎ (b ≡ 34)
IsOfClass class.Other b = OtherByte b

chosen : (k : Bool) (x y c : Class) → cond k x y ≡ c → ((k ≡ true) × (x ≡ c)) ⊎ ((k ≡ false) × (y ≡ c))
chosen true x y c e = inl (refl, e)
chosen false x y c e = inr (refl, e)

abbrev from_quote : ℕ → Class
from_quote b = cond (b == 39 || b == 34) class.Quote class.Other

abbrev from_dollar : ℕ → Class
from_dollar b = cond (b == 36) class.Dollar (from_quote b)

abbrev from_slash : ℕ → Class
from_slash b = cond (b == 47) class.Slash (from_dollar b)

abbrev from_hash : ℕ → Class
from_hash b = cond (b == 35) class.Hash (from_slash b)

abbrev from_space : ℕ → Class
from_space b = cond (is_space b) class.Space (from_hash b)

abbrev from_digit : ℕ → Class
from_digit b = cond (is_digit b) class.Number (from_space b)

quote_tells : (b : ℕ) (k l : Bool) → (b == 39) ≡ k → (b == 34) ≡ l → (k || l) ≡ true → (b ≡ 39) ⊎ (b ≡ 34)
quote_tells b true l e f t = inl (eqb-true b 39 e)
quote_tells b false true e f t = inr (eqb-true b 34 f)
quote_tells b false false e f t = absurd (cc)

neither_quote : (b : ℕ) (k l : Bool) → (b == 39) ≡ k → (b == 34) ≡ l → (k || l) ≡ false → (b ≢ 39) × (b ≢ 34)
neither_quote b true l e f t = absurd (cc)
neither_quote b false true e f t = absurd (cc)
neither_quote b false false e f t = (false_test b 39 e, false_test b 34 f)

pub is_of_class : (b : ℕ) (c : Class) → class_of b ≡ c → IsOfClass c b
is_of_class b c e = name_or (chosen (is_start b) class.Name (from_digit b) c e)
  where
    quote_or : is_start b ≡ false → is_digit b ≡ false → is_space b ≡ false → b ≢ 35 → b ≢ 47 → b ≢ 36
        → ((b == 39 || b == 34) ≡ true) × (class.Quote ≡ c) ⊎ (((b == 39 || b == 34) ≡ false) × (class.Other ≡ c))
        → IsOfClass c b
    quote_or n1 n2 n3 n4 n5 n6 (inl h) =
        subst (λ k. IsOfClass k b) h.1 (quote_tells b (b == 39) (b == 34) refl refl h.0)
    quote_or n1 n2 n3 n4 n5 n6 (inr h) = let n = neither_quote b (b == 39) (b == 34) refl refl h.0 in
        subst (λ k. IsOfClass k b) h.1 (record {
          start = n1;
          digit = n2;
          space = n3;
          hash = n4;
          slash = n5;
          dollar = n6;
          single = n.0;
          double = n.1;
        })

    dollar_or : is_start b ≡ false → is_digit b ≡ false → is_space b ≡ false → b ≢ 35 → b ≢ 47
        → ((b == 36) ≡ true) × (class.Dollar ≡ c) ⊎ (((b == 36) ≡ false) × (from_quote b ≡ c)) → IsOfClass c b
    dollar_or n1 n2 n3 n4 n5 (inl h) = subst (λ k. IsOfClass k b) h.1 (eqb-true b 36 h.0)
    dollar_or n1 n2 n3 n4 n5 (inr h) =
        quote_or n1 n2 n3 n4 n5 (false_test b 36 h.0) (chosen (b == 39 || b == 34) class.Quote class.Other c h.1)

    slash_or : is_start b ≡ false → is_digit b ≡ false → is_space b ≡ false → b ≢ 35
        → ((b == 47) ≡ true) × (class.Slash ≡ c) ⊎ (((b == 47) ≡ false) × (from_dollar b ≡ c)) → IsOfClass c b
    slash_or n1 n2 n3 n4 (inl h) = subst (λ k. IsOfClass k b) h.1 (eqb-true b 47 h.0)
    slash_or n1 n2 n3 n4 (inr h) =
        dollar_or n1 n2 n3 n4 (false_test b 47 h.0) (chosen (b == 36) class.Dollar (from_quote b) c h.1)

    hash_or : is_start b ≡ false → is_digit b ≡ false → is_space b ≡ false
        → ((b == 35) ≡ true) × (class.Hash ≡ c) ⊎ (((b == 35) ≡ false) × (from_slash b ≡ c)) → IsOfClass c b
    hash_or n1 n2 n3 (inl h) = subst (λ k. IsOfClass k b) h.1 (eqb-true b 35 h.0)
    hash_or n1 n2 n3 (inr h) =
        slash_or n1 n2 n3 (false_test b 35 h.0) (chosen (b == 47) class.Slash (from_dollar b) c h.1)

    space_or : is_start b ≡ false → is_digit b ≡ false
        → ((is_space b) ≡ true) × (class.Space ≡ c) ⊎ (((is_space b) ≡ false) × (from_hash b ≡ c)) → IsOfClass c b
    space_or n1 n2 (inl h) = subst (λ k. IsOfClass k b) h.1 h.0
    space_or n1 n2 (inr h) = hash_or n1 n2 h.0 (chosen (b == 35) class.Hash (from_slash b) c h.1)

    digit_or : is_start b ≡ false
        → ((is_digit b) ≡ true) × (class.Number ≡ c) ⊎ (((is_digit b) ≡ false) × (from_space b ≡ c)) → IsOfClass c b
    digit_or n1 (inl h) = subst (λ k. IsOfClass k b) h.1 h.0
    digit_or n1 (inr h) = space_or n1 h.0 (chosen (is_space b) class.Space (from_hash b) c h.1)

    name_or : ((is_start b) ≡ true) × (class.Name ≡ c) ⊎ (((is_start b) ≡ false) × (from_digit b ≡ c)) → IsOfClass c b
    name_or (inl h) = subst (λ k. IsOfClass k b) h.1 h.0
    name_or (inr h) = digit_or h.0 (chosen (is_digit b) class.Number (from_space b) c h.1)

-- ---- operators begin with bytes of the last class

abbrev is_other : Class → Bool
is_other class.Name = false
is_other class.Number = false
is_other class.Space = false
is_other class.Hash = false
is_other class.Slash = false
is_other class.Dollar = false
is_other class.Quote = false
is_other class.Other = true

other_is : (c : Class) → is_other c ≡ true → c ≡ class.Other
other_is class.Name e = absurd (cc)
other_is class.Number e = absurd (cc)
other_is class.Space e = absurd (cc)
other_is class.Hash e = absurd (cc)
other_is class.Slash e = absurd (cc)
other_is class.Dollar e = absurd (cc)
other_is class.Quote e = absurd (cc)
other_is class.Other e = refl

abbrev passes : List (ℕ × Word) → Bool
passes [] = true
passes (row ∷ rows) = is_other (class_of row.0) && passes rows

abbrev passes_two : List (ℕ × ℕ × Word) → Bool
passes_two [] = true
passes_two (row ∷ rows) = is_other (class_of row.0) && passes_two rows

abbrev passes_three : List (ℕ × ℕ × ℕ × Word) → Bool
passes_three [] = true
passes_three (row ∷ rows) = is_other (class_of row.0) && passes_three rows

look_up-class : (b : ℕ) (rows : List (ℕ × Word)) (k : Word) → passes rows ≡ true → look_up b rows ≡ Some k
    → class_of b ≡ class.Other
look_up-class b [] k all e = absurd (cc)
look_up-class b (row ∷ rows) k all e =
    let h = and_parts (is_other (class_of row.0)) (passes rows) all in go (look_up-class b rows k h.1) h.0
    (b == row.0) refl e
  where
    go : (look_up b rows ≡ Some k → class_of b ≡ class.Other) → is_other (class_of row.0) ≡ true → (t : Bool)
        → (b == row.0) ≡ t → cond t (Some row.1) (look_up b rows) ≡ Some k → class_of b ≡ class.Other
    go ih is true t e = ap class_of (eqb-true b row.0 t) ∙ other_is (class_of row.0) is
    go ih is false t e = ih e

look_up_two-class : (b c : ℕ) (rows : List (ℕ × ℕ × Word)) (k : Word) → passes_two rows ≡ true
    → look_up_two b c rows ≡ Some k → class_of b ≡ class.Other
look_up_two-class b c [] k all e = absurd (cc)
look_up_two-class b c (row ∷ rows) k all e =
    let h = and_parts (is_other (class_of row.0)) (passes_two rows) all in go (look_up_two-class b c rows k h.1) h.0
    (b == row.0 && c == row.1) refl e
  where
    go : (look_up_two b c rows ≡ Some k → class_of b ≡ class.Other) → is_other (class_of row.0) ≡ true → (t : Bool)
        → (b == row.0 && c == row.1) ≡ t → cond t (Some row.2) (look_up_two b c rows) ≡ Some k
        → class_of b ≡ class.Other
    go ih is true t e =
        let m = and_parts (b == row.0) (c == row.1) t in ap class_of (eqb-true b row.0 m.0)
        ∙ other_is (class_of row.0) is
    go ih is false t e = ih e

look_up_three-class : (b c d : ℕ) (rows : List (ℕ × ℕ × ℕ × Word)) (k : Word) → passes_three rows ≡ true
    → look_up_three b c d rows ≡ Some k → class_of b ≡ class.Other
look_up_three-class b c d [] k all e = absurd (cc)
look_up_three-class b c d (row ∷ rows) k all e =
    let h = and_parts (is_other (class_of row.0)) (passes_three rows) all in go
    (look_up_three-class b c d rows k h.1) h.0 (b == row.0 && c == row.1 && d == row.2) refl e
  where
    go : (look_up_three b c d rows ≡ Some k → class_of b ≡ class.Other) → is_other (class_of row.0) ≡ true → (t : Bool)
        → (b == row.0 && c == row.1 && d == row.2) ≡ t → cond t (Some row.3) (look_up_three b c d rows) ≡ Some k
        → class_of b ≡ class.Other
    go ih is true t e =
        let m = and_parts (b == row.0 && c == row.1) (d == row.2) t in let m2 = and_parts (b == row.0)
        (c == row.1) m.0 in ap class_of (eqb-true b row.0 m2.0) ∙ other_is (class_of row.0) is
    go ih is false t e = ih e

pub one_byte-class : (b : ℕ) (k : Word) → one_byte b ≡ Some k → class_of b ≡ class.Other
one_byte-class b k e = look_up-class b one_byte_operators k refl e

pub two_bytes-class : (b c : ℕ) (k : Word) → two_bytes b c ≡ Some k → class_of b ≡ class.Other
two_bytes-class b c k e = look_up_two-class b c two_byte_operators k refl e

pub three_bytes-class : (b c d : ℕ) (k : Word) → three_bytes b c d ≡ Some k → class_of b ≡ class.Other
three_bytes-class b c d k e = look_up_three-class b c d three_byte_operators k refl e

-- no operator begins with a byte of another class
pub operator_first : (u : List ℕ) (k : Word) → operator_of u ≡ Some k
    → (b : ℕ) × (t : List ℕ) × (u ≡ b ∷ t) × (class_of b ≡ class.Other)
operator_first [] k e = absurd (cc)
operator_first (b ∷ []) k e = (b, [], refl, one_byte-class b k e)
operator_first (b ∷ c ∷ []) k e = (b, c ∷ [], refl, two_bytes-class b c k e)
operator_first (b ∷ c ∷ d ∷ []) k e = (b, c ∷ d ∷ [], refl, three_bytes-class b c d k e)
operator_first (b ∷ c ∷ d ∷ x ∷ t) k e = absurd (cc)
