-- What is spelt so is read.
use Rattle.std.proofs.Common.{◌≡◌, ℕ, zero, suc, ◌+◌, ◌*◌, ◌/◌, ◌%◌, ◌-◌, ◌≤◌, Bool, true, false, cond, not, ◌&&◌, ◌==◌, List, [], ◌∷◌, ◌++◌, length, drop, replicate, get_or, Option, Some, None, refl, sym, ap, subst, ◌∙◌, append_assoc, length-append, arith, inl, inr}
use Rattle.std.specs.List.{prefix_len}
use Rattle.std.proofs.lemmas.Bool.{eqb-true, le-leb, and_parts, and_from}
use Rattle.base64.specs.Engines.{standard}
use Rattle.base64.specs.GeneralPurpose.{encode_of}
use Rattle.base64.specs.Rfc4648.{encode_symbols}
use Rattle.dp_command.specs.Sorts.{is_space, is_name_byte, is_bare, is_text, Each, begins}
use Rattle.dp_command.specs.Grammar.{◌>>◌, Spaces, SomeSpaces, IsName, Name, InQuotes, Repeated, Value, Given, Ending}
use Rattle.dp_command.specs.inner.Parts.{◌>>=◌, run_at, spaces_at, name_at, items_at, pair_at, byte_at, quoted_at, bare_at, value_at, letter_of, letter_at, argument_of, option_at, options_at, text_at, dashed, ending_at, parts_at}
use Rattle.dp_grammar.proofs.Runs.{not_zero, run_exact, run_again, run_whole}
use Rattle.dp_grammar.proofs.Sequences.{before_items, items_again, items_few}

-- names and bare values end here
abbrev Stops : List ℕ → Type 0
Stops tail = (begins is_bare tail ≡ false) × (begins is_name_byte tail ≡ false)

spaced : (front tail : List ℕ) → SomeSpaces front → Stops (front ++ tail)
spaced [] tail s = absurd (omega (arith, s.1))
spaced (b ∷ t) tail s = let e : b ≡ 32 = eqb-true b 32 s.0.0 in (ap is_bare e, ap is_name_byte e)

not_true : (b : Bool) → not b ≡ true → b ≡ false
not_true true e = absurd cc
not_true false e = refl

each_append : (p : ℕ → Bool) (xs ys : List ℕ) → Each p xs → Each p ys → Each p (xs ++ ys)
each_append p [] ys a b = b
each_append p (x ∷ xs) ys a b = (a.0, each_append p xs ys a.1 b)

-- ---- spaces and names

spaces_again : (front rest : List ℕ) → SomeSpaces front → begins is_space rest ≡ false
    → spaces_at (front ++ rest) ≡ Some rest
unfolding spaces_at
spaces_again [] rest s stops = absurd (omega (arith, s.1))
spaces_again (b ∷ t) rest s stops =
    ap (λ c. cond c (Some (run_at is_space (b ∷ (t ++ rest))).1) None) s.0.0
    ∙ ap (λ (v : List ℕ × List ℕ). Some v.1) (run_again is_space (b ∷ t) rest s.0 stops)

spaces_all : (xs : List ℕ) → SomeSpaces xs → spaces_at xs ≡ Some []
unfolding spaces_at
spaces_all [] s = absurd (omega (arith, s.1))
spaces_all (b ∷ t) s =
    ap (λ c. cond c (Some (run_at is_space (b ∷ t)).1) None) s.0.0
    ∙ ap (λ (v : List ℕ). Some v) (run_whole is_space (b ∷ t) s.0)

name_again : (name rest : List ℕ) → IsName name → begins is_name_byte rest ≡ false
    → name_at (name ++ rest) ≡ Some (name, rest)
unfolding name_at
name_again name rest is stops =
    let k = prefix_len is_name_byte (name ++ rest) in
    let len : k ≡ length name = run_exact is_name_byte name rest is.0 stops in
    let low : 1 ≤ k = omega (arith, is.1, len) in
    let high : k ≤ 64 = omega (arith, is.2, len) in
    ap (λ c. cond c (Some (run_at is_name_byte (name ++ rest))) None) (and_from _ _ (le-leb 1 k low) (le-leb k 64 high))
    ∙ ap (λ (v : List ℕ × List ℕ). Some v) (run_again is_name_byte name rest is.0 stops)

-- ---- values

bare_quote : (b : ℕ) → is_bare b ≡ true → (b == 34) ≡ false
bare_quote b e = not_true (b == 34) (and_parts (not (b == 32) && not (b == 0)) (not (b == 34)) e).1

bare_space : (b : ℕ) → is_bare b ≡ true → is_space b ≡ false
bare_space b e =
    not_true (b == 32) (and_parts (not (b == 32)) (not (b == 0))
    (and_parts (not (b == 32) && not (b == 0)) (not (b == 34)) e).0).0

bare_again : (value rest : List ℕ) → Each is_bare value → 1 ≤ length value → begins is_bare rest ≡ false
    → value_at (value ++ rest) ≡ Some (value, rest)
unfolding value_at bare_at
bare_again [] rest all some stops = absurd (omega (arith, some))
bare_again (b ∷ t) rest all some stops =
    ap (λ c. cond c (quoted_at (t ++ rest)) (bare_at (b ∷ (t ++ rest)))) (bare_quote b all.0)
    ∙ ap (λ c. cond c (Some (run_at is_bare (b ∷ (t ++ rest)))) None) all.0
    ∙ ap (λ (v : List ℕ × List ℕ). Some v) (run_again is_bare (b ∷ t) rest all stops)

abbrev found_byte : ℕ → List ℕ → Option (Option ℕ × List ℕ)
found_byte b rest = Some (Some b, rest)

byte_cases : (b : ℕ) (tail : List ℕ) (u v w : Bool) → (b == 34) ≡ u → (b == 92) ≡ v → (b == 0) ≡ w
    → byte_at (cond u (92 ∷ 34 ∷ []) (cond v (92 ∷ 92 ∷ []) (cond w (92 ∷ 48 ∷ []) (b ∷ []))) ++ tail) ≡ found_byte b
    tail
unfolding byte_at
byte_cases b tail true v w x y z = ap (λ c. found_byte c tail) (sym (eqb-true b 34 x))
byte_cases b tail false true w x y z = ap (λ c. found_byte c tail) (sym (eqb-true b 92 y))
byte_cases b tail false false true x y z = ap (λ c. found_byte c tail) (sym (eqb-true b 0 z))
byte_cases b tail false false false x y z =
    ap (λ u. cond u (Some (None, b ∷ tail)) (cond (b == 92) (pair_at tail) (cond (b == 0) None (found_byte b tail)))) x
    ∙ ap (λ u. cond u (pair_at tail) (cond (b == 0) None (found_byte b tail))) y
    ∙ ap (λ u. cond u None (found_byte b tail)) z

byte_again : (b : ℕ) (front tail : List ℕ) → InQuotes b front → byte_at (front ++ tail) ≡ found_byte b tail
byte_again b front tail e =
    ap (λ (t : List ℕ). byte_at (t ++ tail)) e ∙ byte_cases b tail (b == 34) (b == 92) (b == 0) refl refl refl

in_quotes_some : (b : ℕ) (front : List ℕ) → InQuotes b front → 1 ≤ length front
in_quotes_some b front e = subst (λ (t : List ℕ). 1 ≤ length t) (sym e) (go (b == 34) (b == 92) (b == 0))
  where
    go : (u v w : Bool) → 1 ≤ length (cond u (92 ∷ 34 ∷ []) (cond v (92 ∷ 92 ∷ []) (cond w (92 ∷ 48 ∷ []) (b ∷ []))))
    go true v w = omega arith
    go false true w = omega arith
    go false false true = omega arith
    go false false false = omega arith

quoted_again : (value inner rest : List ℕ) → Repeated InQuotes value inner
    → quoted_at (inner ++ (34 ∷ rest)) ≡ Some (value, rest)
unfolding quoted_at byte_at
quoted_again value inner rest items =
    let all = inner ++ (34 ∷ rest) in
    let few : length value ≤ length all = omega (
      arith,
      items_few InQuotes in_quotes_some value inner items,
      length-append inner (34 ∷ rest),
    ) in
    ap (λ (o : Option (List ℕ × List ℕ)). o >>= λ v. cond (begins (λ b. b == 34) v.1) (Some (v.0, drop 1 v.1)) None)
    (items_again InQuotes byte_at (λ _. Unit {0}) (34 ∷ rest) (λ a f t r. tt) tt (λ a f t r _. byte_again a f t r) refl
    (length all) value inner items few)

value_again : (value front rest : List ℕ) → Value value front → begins is_bare rest ≡ false
    → value_at (front ++ rest) ≡ Some (value, rest)
unfolding value_at
value_again value front rest (inl b) stops =
    ap (λ (t : List ℕ). value_at (t ++ rest)) b.2 ∙ bare_again value rest b.0 b.1 stops
value_again value front rest (inr q) stops =
    let i = q.second in
    let back : q.back ++ rest ≡ i.front ++ (34 ∷ rest) =
    ap (λ (t : List ℕ). t ++ rest) (i.whole ∙ ap (λ (t : List ℕ). i.front ++ t) i.second)
    ∙ append_assoc i.front (34 ∷ []) rest in
    let all : front ++ rest ≡ 34 ∷ (i.front ++ (34 ∷ rest)) =
    ap (λ (t : List ℕ). t ++ rest) (q.whole ∙ ap (λ (t : List ℕ). t ++ q.back) q.first)
    ∙ ap (λ (t : List ℕ). 34 ∷ t) back in
    ap value_at all ∙ quoted_again value i.front rest i.first

value_space : (value front rest : List ℕ) → Value value front → begins is_space (front ++ rest) ≡ false
value_space [] front rest (inl b) = absurd (omega (arith, b.1))
value_space (b ∷ t) front rest (inl v) = ap (λ (x : List ℕ). begins is_space (x ++ rest)) v.2 ∙ bare_space b v.0.0
value_space value front rest (inr q) =
    ap (λ (x : List ℕ). begins is_space (x ++ rest)) (q.whole ∙ ap (λ (t : List ℕ). t ++ q.back) q.first)

-- ---- options

given_again : (o : ℕ × List ℕ) (front tail : List ℕ) → Given o front → Stops tail
    → option_at (front ++ tail) ≡ Some (Some o, tail)
unfolding option_at letter_at
given_again o front tail g stops =
    let m = g.second.1 in
    let s = m.second in
    let z = s.back ++ tail in
    let y = s.front ++ z in
    let x : List ℕ = 45 ∷ o.0 ∷ y in
    let back : g.back ++ tail ≡ x =
    ap (λ (t : List ℕ). t ++ tail) (m.whole ∙ ap (λ (t : List ℕ). t ++ m.back) m.first)
    ∙ ap (λ (t : List ℕ). 45 ∷ o.0 ∷ t) (ap (λ (t : List ℕ). t ++ tail) s.whole ∙ append_assoc s.front s.back tail) in
    let all : front ++ tail ≡ g.front ++ x = ap (λ (t : List ℕ). t ++ tail) g.whole ∙ append_assoc g.front g.back tail
    ∙ ap (λ (t : List ℕ). g.front ++ t) back in
    let letter : letter_at (g.front ++ x) ≡ Some (o.0, y) =
    ap (λ (r : Option (List ℕ)). r >>= letter_of) (spaces_again g.front x g.first refl)
    ∙ ap (λ c. cond c (Some (o.0, y)) None) g.second.0 in
    ap option_at all
    ∙ ap (λ (r : Option (ℕ × List ℕ)). argument_of r (g.front ++ x)) letter
    ∙ ap (λ (r : Option (List ℕ)). r >>= λ text. value_at text >>= λ v. Some (Some (o.0, v.0), v.1))
    (spaces_again s.front z s.first (value_space o.1 s.back tail s.second))
    ∙ ap (λ (r : Option (List ℕ × List ℕ)). r >>= λ v. Some (Some (o.0, v.0), v.1))
    (value_again o.1 s.back tail s.second stops.0)

given_starts : (o : ℕ × List ℕ) (front tail : List ℕ) → Given o front → Stops (front ++ tail)
given_starts o front tail g =
    subst Stops (sym (append_assoc g.front g.back tail) ∙ ap (λ (t : List ℕ). t ++ tail) (sym g.whole))
    (spaced g.front (g.back ++ tail) g.first)

given_some : (o : ℕ × List ℕ) (front : List ℕ) → Given o front → 1 ≤ length front
given_some o front g = omega (arith, g.first.1, length-append g.front g.back, ap length g.whole)

-- ---- the ending

-- the text that spells a payload
abbrev pub text_of : Option (List ℕ) → Option (List ℕ)
text_of None = None
text_of (Some payload) = Some (encode_of standard payload)

-- the 64 symbols
abbrev symbols : List ℕ
symbols = standard.encode_table

all_pass : (ℕ → Bool) → List ℕ → Bool
all_pass p [] = true
all_pass p (x ∷ xs) = p x && all_pass p xs

passes_at : (p : ℕ → Bool) (xs : List ℕ) (k d : ℕ) → all_pass p xs ≡ true → p d ≡ true → p (get_or xs k d) ≡ true
unfolding all_pass
passes_at p [] k d all last = last
passes_at p (x ∷ xs) zero d all last = (and_parts (p x) (all_pass p xs) all).0
passes_at p (x ∷ xs) (suc k) d all last = passes_at p xs k d (and_parts (p x) (all_pass p xs) all).1 last

symbol_text : (k : ℕ) → is_text (get_or symbols k 0) ≡ true
unfolding all_pass
symbol_text k = passes_at is_text symbols k 0 refl refl

symbols_text : (m : List ℕ) → Each is_text (encode_symbols symbols m)
unfolding encode_symbols
symbols_text [] = tt
symbols_text (a ∷ []) = (symbol_text (a / 4), (symbol_text (a % 4 * 16), tt))
symbols_text (a ∷ b ∷ []) = (symbol_text (a / 4), (symbol_text (a % 4 * 16 + b / 16), (symbol_text (b % 16 * 4), tt)))
symbols_text (a ∷ b ∷ c ∷ rest) = (
  symbol_text (a / 4),
  (
    symbol_text (a % 4 * 16 + b / 16),
    (symbol_text (b % 16 * 4 + c / 64), (symbol_text (c % 64), symbols_text rest)),
  ),
)

padding_text : (n : ℕ) → Each is_text (replicate n 61)
padding_text zero = tt
padding_text (suc n) = (refl, padding_text n)

encoded_text : (m : List ℕ) → Each is_text (encode_of standard m)
encoded_text m =
    each_append is_text (encode_symbols symbols m) (replicate ((3 - length m % 3) % 3) 61) (symbols_text m)
    (padding_text ((3 - length m % 3) % 3))

spaces_no_text : (xs : List ℕ) → Spaces xs → begins is_text xs ≡ false
spaces_no_text [] s = refl
spaces_no_text (b ∷ t) s = ap not s.0

text_again : (text sp trail : List ℕ) → Each is_text text → SomeSpaces sp → Spaces trail
    → text_at (sp ++ (text ++ trail)) ≡ Some text
unfolding text_at
text_again [] sp trail all s tr =
    let each = each_append is_space sp trail s.0 tr in
    let some : 1 ≤ length (sp ++ trail) = omega (arith, s.1, length-append sp trail) in
    ap (λ (o : Option (List ℕ)). o
    >>= λ text. cond (length (run_at is_space (run_at is_text text).1).1 == 0) (Some (run_at is_text text).0) None)
    (spaces_all (sp ++ trail) (each, some))
text_again (b ∷ t) sp trail all s tr =
    let text : List ℕ = b ∷ t in
    ap (λ (o : Option (List ℕ)). o
    >>= λ text. cond (length (run_at is_space (run_at is_text text).1).1 == 0) (Some (run_at is_text text).0) None)
    (spaces_again sp (text ++ trail) s (not_true (b == 32) all.0))
    ∙ ap (λ (v : List ℕ × List ℕ). cond (length (run_at is_space v.1).1 == 0) (Some v.0) None)
    (run_again is_text text trail all (spaces_no_text trail tr))
    ∙ ap (λ (x : List ℕ). cond (length x == 0) (Some text) None) (run_whole is_space trail tr)

-- the rest of an ending behind its first spaces
abbrev ending_rest : List ℕ → Option (Option (List ℕ))
ending_rest bytes = spaces_at bytes >>= λ dashes. dashed dashes >>= λ rest. text_at rest >>= λ text. Some (Some text)

ending_again : (payload : Option (List ℕ)) (back : List ℕ) → Ending payload back
    → ending_at back ≡ Some (text_of payload)
unfolding ending_at
ending_again None back s =
    ap (λ (x : List ℕ). cond (length x == 0) (Some None) (ending_rest back)) (run_whole is_space back s)
ending_again (Some payload) back j =
    let d = j.second in
    let s = d.second in
    let p = s.second in
    let text = encode_of standard payload in
    let y = s.front ++ (text ++ p.back) in
    let x : List ℕ = 45 ∷ 45 ∷ y in
    let behind : s.back ≡ text ++ p.back = p.whole ∙ ap (λ (t : List ℕ). t ++ p.back) p.first.1 in
    let dashes : j.back ≡ x = d.whole ∙ ap (λ (t : List ℕ). t ++ d.back) d.first
    ∙ ap (λ (t : List ℕ). 45 ∷ 45 ∷ t) (s.whole ∙ ap (λ (t : List ℕ). s.front ++ t) behind) in
    let all : back ≡ j.front ++ x = j.whole ∙ ap (λ (t : List ℕ). j.front ++ t) dashes in
    ap ending_at all
    ∙ ap (λ (v : List ℕ × List ℕ). cond (length v.1 == 0) (Some None) (ending_rest (j.front ++ x)))
    (run_again is_space j.front x j.first.0 refl)
    ∙ ap (λ c. cond c (Some None) (ending_rest (j.front ++ x))) (not_zero (length x) (omega arith))
    ∙ ap (λ (o : Option (List ℕ)). o >>= λ dashes. dashed dashes >>= λ rest. text_at rest >>= λ text. Some (Some text))
    (spaces_again j.front x j.first refl)
    ∙ ap (λ (o : Option (List ℕ)). o >>= λ text. Some (Some text))
    (text_again text s.front p.back (encoded_text payload) s.first p.second)

ending_stops : (payload : Option (List ℕ)) (back : List ℕ) → Ending payload back → Stops back
ending_stops None [] s = (refl, refl)
ending_stops None (b ∷ t) s = let e : b ≡ 32 = eqb-true b 32 s.0 in (ap is_bare e, ap is_name_byte e)
ending_stops (Some payload) back j = subst Stops (sym j.whole) (spaced j.front j.back j.first)

ending_letter : (payload : Option (List ℕ)) (back : List ℕ) → Ending payload back → letter_at back ≡ None
unfolding letter_at spaces_at
ending_letter None [] s = refl
ending_letter None (b ∷ t) s = ap (λ (r : Option (List ℕ)). r >>= letter_of) (spaces_all (b ∷ t) (s, omega arith))
ending_letter (Some payload) back j =
    let d = j.second in
    let x : List ℕ = 45 ∷ 45 ∷ d.back in
    let dashes : j.back ≡ x = d.whole ∙ ap (λ (t : List ℕ). t ++ d.back) d.first in
    ap letter_at (j.whole ∙ ap (λ (t : List ℕ). j.front ++ t) dashes)
    ∙ ap (λ (r : Option (List ℕ)). r >>= letter_of) (spaces_again j.front x j.first refl)

no_option : (back : List ℕ) → letter_at back ≡ None → option_at back ≡ Some (None, back)
unfolding option_at
no_option back e = ap (λ (r : Option (ℕ × List ℕ)). argument_of r back) e

-- ---- the whole

pub parts_again : (bytes name : List ℕ) (options : List (ℕ × List ℕ)) (payload : Option (List ℕ))
    → (Name name >> Repeated Given options >> Ending payload) bytes
    → parts_at bytes ≡ Some (name, options, text_of payload)
unfolding parts_at options_at
parts_again bytes name options payload j =
    let o = j.second in
    let stops : Stops (o.front ++ o.back) = before_items Given Stops o.back given_starts
    (ending_stops payload o.back o.second) options o.front o.first in
    let back : Stops j.back = subst Stops (sym o.whole) stops in
    let named : name_at bytes ≡ Some (name, j.back) =
    ap name_at (j.whole ∙ ap (λ (t : List ℕ). t ++ j.back) j.first.1) ∙ name_again name j.back j.first.0 back.1 in
    let few : length options ≤ length j.back = omega (
      arith,
      items_few Given given_some options o.front o.first,
      length-append o.front o.back,
      ap length o.whole,
    ) in
    let given : options_at j.back ≡ Some (options, o.back) =
    ap (items_at option_at (length j.back)) o.whole
    ∙ items_again Given option_at Stops o.back given_starts (ending_stops payload o.back o.second) given_again
    (no_option o.back (ending_letter payload o.back o.second)) (length j.back) options o.front o.first few in
    ap (λ (r : Option (List ℕ × List ℕ)). r >>= λ n. options_at n.1 >>= λ g. ending_at g.1 >>= λ t. Some (n.0, g.0, t))
    named
    ∙ ap (λ (r : Option (List (ℕ × List ℕ) × List ℕ)). r >>= λ g. ending_at g.1 >>= λ t. Some (name, g.0, t)) given
    ∙ ap (λ (r : Option (Option (List ℕ))). r >>= λ t. Some (name, options, t)) (ending_again payload o.back o.second)
