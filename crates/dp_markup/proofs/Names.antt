-- Names: they end before the first byte that is no byte of a name, and can be made longer.
use Rattle.std.proofs.Common.{◌≤◌, ◌≡◌, ℕ, zero, suc, ◌+◌, ◌<◌, Bool, true, false, not, ◌||◌, ◌&&◌, List, [], ◌∷◌, ◌++◌, length, take, drop, Option, Ok, sym, refl, ap, ◌∙◌, length-append, cond, arith, nat_eq}
use Rattle.std.specs.List.{prefix_len, list_all, list_any}
use Rattle.dp_markup.specs.inner.Input.{head, next, refuse, ◌>>=◌, tested}
use Rattle.dp_markup.specs.Rules.{Tested}
use Rattle.dp_markup.specs.Classes.{is_name, is_name_start, is_name_byte, is_digit}
use Rattle.dp_markup.specs.Grammar.{Name, Text, Attributes, same_text, is_new}
use Rattle.dp_markup.specs.inner.Readers.{name}
use Rattle.dp_grammar.proofs.Answers.{tested_answers}
use Rattle.dp_markup.proofs.Answers.{Rules, Stop, StartsIn, Follows, guarded_answers, same_level}
use Rattle.dp_markup.proofs.Basics.{IsReader}

-- a name may end where no byte of a name comes next
abbrev pub name_stop : {A : Type 0} → A → Option ℕ → Bool
name_stop a o = not (next is_name_byte o)

and_true : (u v : Bool) → (u && v) ≡ true → (u ≡ true) × (v ≡ true)
and_true true v is = (refl, is)
and_true false v is = absurd (cc)

true_and : (u v : Bool) → u ≡ true → v ≡ true → (u && v) ≡ true
true_and u v one other = ap (λ x. x && v) one ∙ other

pub name_starts : StartsIn (λ _. Name) is_name_start
name_starts m text [] h = absurd (let e : false ≡ true = h.is_name in cc)
name_starts m text (b ∷ bs) h = (b, bs, h.same, (and_true (is_name_start b) (list_all is_name_byte bs) h.is_name).0)

-- the bytes of a name at the front, and what is behind them
abbrev front : List ℕ → List ℕ
front ts = take (prefix_len is_name_byte ts) ts

abbrev rest : List ℕ → List ℕ
rest ts = drop (prefix_len is_name_byte ts) ts

front_cons : (b : ℕ) (bs : List ℕ) → is_name_byte b ≡ true → (front (b ∷ bs) ≡ b ∷ front bs) × (rest (b ∷ bs) ≡ rest bs)
front_cons b bs is =
    let e : prefix_len is_name_byte (b ∷ bs) ≡ suc (prefix_len is_name_byte bs) = ap
    (λ v. cond v (1 + prefix_len is_name_byte bs) 0) is ∙ omega arith in
    (ap (λ n. take n (b ∷ bs)) e, ap (λ n. drop n (b ∷ bs)) e)

front_end : (b : ℕ) (bs : List ℕ) → is_name_byte b ≡ false → (front (b ∷ bs) ≡ []) × (rest (b ∷ bs) ≡ b ∷ bs)
front_end b bs is =
    let e : prefix_len is_name_byte (b ∷ bs) ≡ 0 = ap (λ v. cond v (1 + prefix_len is_name_byte bs) 0) is in
    (ap (λ n. take n (b ∷ bs)) e, ap (λ n. drop n (b ∷ bs)) e)

pub front_all : (ts : List ℕ) → list_all is_name_byte (front ts) ≡ true
front_all [] = refl
front_all (b ∷ bs) = go (front_all bs) (is_name_byte b) refl
  where
    go : list_all is_name_byte (front bs) ≡ true → (v : Bool) → is_name_byte b ≡ v
        → list_all is_name_byte (front (b ∷ bs)) ≡ true
    go on true is =
        ap (list_all is_name_byte) (front_cons b bs is).0
        ∙ true_and (is_name_byte b) (list_all is_name_byte (front bs)) is on
    go on false is = ap (list_all is_name_byte) (front_end b bs is).0

split_name : (ts : List ℕ) → ts ≡ front ts ++ rest ts
split_name [] = refl
split_name (b ∷ bs) = go (split_name bs) (is_name_byte b) refl
  where
    go : bs ≡ front bs ++ rest bs → (v : Bool) → is_name_byte b ≡ v → b ∷ bs ≡ front (b ∷ bs) ++ rest (b ∷ bs)
    go on true is = ap (λ l. b ∷ l) on ∙ sym (λ i. (front_cons b bs is).0 i ++ (front_cons b bs is).1 i)
    go on false is = sym (λ i. (front_end b bs is).0 i ++ (front_end b bs is).1 i)

-- what begins with all the bytes of a name that come next, and with no further one, has this name
same_front : (xs ys s q : List ℕ) → list_all is_name_byte xs ≡ true → list_all is_name_byte ys ≡ true
    → next is_name_byte (head s) ≡ false → next is_name_byte (head q) ≡ false
    → xs ++ s ≡ ys ++ q → (ys ≡ xs) × (q ≡ s)
same_front [] [] s q ax ay es eq e = (refl, sym e)
same_front [] (y ∷ ys) s q ax ay es eq e =
    let a : is_name_byte y ≡ true = (and_true (is_name_byte y) (list_all is_name_byte ys) ay).0 in
    let b : is_name_byte y ≡ false = ap (λ l. next is_name_byte (head l)) (sym e) ∙ es in
    absurd (cc)
same_front (x ∷ xs) [] s q ax ay es eq e =
    let a : is_name_byte x ≡ true = (and_true (is_name_byte x) (list_all is_name_byte xs) ax).0 in
    let b : is_name_byte x ≡ false = ap (λ l. next is_name_byte (head l)) e ∙ eq in
    absurd (cc)
same_front (x ∷ xs) (y ∷ ys) s q ax ay es eq e =
    let tails : xs ++ s ≡ ys ++ q = cc in
    let heads : x ≡ y = cc in
    let more = same_front xs ys s q (and_true (is_name_byte x) (list_all is_name_byte xs) ax).1
    (and_true (is_name_byte y) (list_all is_name_byte ys) ay).1 es eq tails in
    ((λ i. sym heads i ∷ more.0 i), more.1)

start_is_byte : (b : ℕ) → is_name_start b ≡ true → is_name_byte b ≡ true
start_is_byte b is = ap (λ v. v || is_digit b || nat_eq b 45 || nat_eq b 46) is

pub name_all : (n : Text) → is_name n ≡ true → list_all is_name_byte n ≡ true
name_all [] is = refl
name_all (b ∷ bs) is =
    let p = and_true (is_name_start b) (list_all is_name_byte bs) is in true_and (is_name_byte b)
    (list_all is_name_byte bs) (start_is_byte b p.0) p.1

rest_ends : (ts : List ℕ) → next is_name_byte (head (rest ts)) ≡ false
rest_ends [] = refl
rest_ends (b ∷ bs) = go (rest_ends bs) (is_name_byte b) refl
  where
    go : next is_name_byte (head (rest bs)) ≡ false → (v : Bool) → is_name_byte b ≡ v
        → next is_name_byte (head (rest (b ∷ bs))) ≡ false
    go on true is = ap (λ l. next is_name_byte (head l)) (front_cons b bs is).1 ∙ on
    go on false is = ap (λ l. next is_name_byte (head l)) (front_end b bs is).1 ∙ is

not_false : (v : Bool) → not v ≡ true → v ≡ false
not_false true is = absurd (cc)
not_false false is = refl

-- a name is at the front
front_is_name : (ts : List ℕ) → next is_name_start (head ts) ≡ true → is_name (front ts) ≡ true
front_is_name [] is = absurd (cc)
front_is_name (b ∷ bs) is =
    ap is_name (front_cons b bs (start_is_byte b is)).0
    ∙ true_and (is_name_start b) (list_all is_name_byte (front bs)) is (front_all bs)

pub name_reads : (level : ℕ) → IsReader (λ _. Name) name_stop level name
unfolding name refuse
name_reads level ts =
    guarded_answers (λ _. Name) is_name_start name_stop level ts name_starts (Ok (front ts, rest ts)) (λ is. record {
      text = front ts;
      split = split_name ts;
      spelled = λ m _. record { same = refl; is_name = front_is_name ts is };
      only = λ m s e b q begins.
          let h = begins.spelled in
          let ends : next is_name_byte (head s) ≡ false = ap (next is_name_byte) e ∙ rest_ends ts in
          let f = same_front (front ts) b s q (front_all ts) (name_all b h.is_name) ends
          (not_false (next is_name_byte (head q)) begins.stops) (begins.split ∙ ap (λ l. l ++ q) h.same) in
          f;
    })

-- what follows a name
pub follows_name : {A B : Type 0} (second : A → Rules B) (t : ℕ → Bool) (stop : Stop B)
    → ((a : A) → StartsIn (second a) t) → ((b : ℕ) → t b ≡ true → is_name_byte b ≡ false)
    → Follows name_stop second stop
follows_name second t stop starts apart m a ts b r h is =
    let x = starts a m ts b h in ap (λ l. not (next is_name_byte (head (l ++ r)))) x.2 ∙ ap not (apart x.0 x.3)

-- ---- a new name can always be found, by more letters

all_append : (xs ys : Text) → list_all is_name_byte xs ≡ true → list_all is_name_byte ys ≡ true
    → list_all is_name_byte (xs ++ ys) ≡ true
all_append [] ys ax ay = ay
all_append (x ∷ xs) ys ax ay =
    let p = and_true (is_name_byte x) (list_all is_name_byte xs) ax in true_and (is_name_byte x)
    (list_all is_name_byte (xs ++ ys)) p.0 (all_append xs ys p.1 ay)

letters : ℕ → Text
letters zero = []
letters (suc n) = 97 ∷ letters n

letters_all : (n : ℕ) → list_all is_name_byte (letters n) ≡ true
unfolding letters
letters_all zero = refl
letters_all (suc n) = letters_all n

length_letters : (n : ℕ) → length (letters n) ≡ n
unfolding letters
length_letters zero = refl
length_letters (suc n) = ap suc (length_letters n)

longer_name : (n : Text) (count : ℕ) → is_name n ≡ true → is_name (n ++ letters count) ≡ true
longer_name [] count is = absurd (cc)
longer_name (b ∷ bs) count is =
    let p = and_true (is_name_start b) (list_all is_name_byte bs) is in true_and (is_name_start b)
    (list_all is_name_byte (bs ++ letters count)) p.0 (all_append bs (letters count) p.1 (letters_all count))

pub same_length : (xs ys : Text) → same_text xs ys ≡ true → length xs ≡ length ys
same_length [] [] is = refl
same_length [] (y ∷ ys) is = absurd (cc)
same_length (x ∷ xs) [] is = absurd (cc)
same_length (x ∷ xs) (y ∷ ys) is = ap suc (same_length xs ys (and_true (nat_eq x y) (same_text xs ys) is).1)

total : Attributes → ℕ
total [] = 0
total (a ∷ found) = length a.0 + total found

new_by_length : (found : Attributes) (n : Text) → total found < length n → list_any (λ a. same_text a.0 n) found ≡ false
unfolding total
new_by_length [] n less = refl
new_by_length (a ∷ found) n less = go (new_by_length found n (omega arith)) (same_text a.0 n) refl
  where
    go : list_any (λ x. same_text x.0 n) found ≡ false → (v : Bool) → same_text a.0 n ≡ v
        → list_any (λ x. same_text x.0 n) (a ∷ found) ≡ false
    go on true is = let e = same_length a.0 n is in absurd (omega arith)
    go on false is = ap (λ v. v || list_any (λ x. same_text x.0 n) found) is ∙ on

longer : (found : Attributes) (m : ℕ) (text n : Text) → Name text n
    → (more : List ℕ) × (b : Text) × Name (text ++ more) b × (is_new found b ≡ true)
longer found m text n h =
    let more = letters (suc (total found)) in (
      more,
      n ++ more,
      record { same = ap (λ l. l ++ more) h.same; is_name = longer_name n (suc (total found)) h.is_name },
      ap not (new_by_length found (n
          ++ more) (omega (arith, length-append n more, length_letters (suc (total found))))),
    )

pub new_name_reads : (found : Attributes) (level : ℕ)
    → IsReader (λ _. Tested Name (is_new found)) name_stop level (name >>= tested (is_new found))
new_name_reads found level ts =
    tested_answers ◌≤◌ same_level (λ _. Name) (is_new found) name_stop level ts (longer found) (name ts)
    (name_reads level ts)
