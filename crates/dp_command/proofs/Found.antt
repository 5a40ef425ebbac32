-- What is read is spelt so.
use Rattle.std.proofs.Common.{◌≡◌, ℕ, ◌≤◌, Bool, true, false, cond, ◌&&◌, ◌==◌, List, [], ◌∷◌, ◌++◌, length, drop, Option, Some, None, refl, sym, ap, subst, ◌∙◌, arith, inl, inr}
use Rattle.std.specs.List.{prefix_len}
use Rattle.std.proofs.lemmas.Bool.{eqb-true, leb-true, and_parts}
use Rattle.std.proofs.lemmas.List.{take-append-drop}
use Rattle.std.proofs.lemmas.List.Folds.{length-prefix_len}
use Rattle.base64.specs.Engines.{standard}
use Rattle.base64.specs.GeneralPurpose.{encode_of, IsBytes}
use Rattle.dp_bytes.specs.Quotes.{in_quotes}
use Rattle.dp_command.specs.Sorts.{is_space, is_name_byte, is_letter, is_bare, is_text, begins}
use Rattle.dp_command.specs.Grammar.{Rule, ◌>>◌, Mark, Spaces, SomeSpaces, Name, InQuotes, Repeated, Value, Argument, Given, Ending}
use Rattle.dp_command.specs.inner.Parts.{◌>>=◌, run_at, spaces_at, name_at, items_at, pair_at, byte_at, quoted_at, bare_at, value_at, letter_of, letter_at, argument_of, option_at, options_at, text_at, dashed, ending_at, parts_at}
use Rattle.dp_grammar.proofs.Runs.{some_is, found_parts, bind_some, guard_some, run_passes, run_some, run_all}
use Rattle.dp_grammar.proofs.Sequences.{Takes, takes_then, takes_last, items_found}

-- a run at the front
abbrev run_taken : (p : ℕ → Bool) (bytes : List ℕ) → Takes (Mark (run_at p bytes).0) bytes (run_at p bytes).1
run_taken p bytes =
    record { front = (run_at p bytes).0; whole = sym (take-append-drop (prefix_len p bytes) bytes); is = refl }

pub spaces_found : (bytes rest : List ℕ) → spaces_at bytes ≡ Some rest → Takes SomeSpaces bytes rest
unfolding spaces_at
spaces_found bytes rest e =
    let run = run_at is_space bytes in
    let g = guard_some (begins is_space bytes) (Some run.1) rest e in
    record {
      front = run.0;
      whole = (run_taken is_space bytes).whole ∙ ap (λ (t : List ℕ). run.0 ++ t) (some_is run.1 rest g.1);
      is = (run_passes is_space bytes, run_some is_space bytes g.0);
    }

pub name_found : (bytes : List ℕ) (n : List ℕ × List ℕ) → name_at bytes ≡ Some n → Takes (Name n.0) bytes n.1
unfolding name_at
name_found bytes n e =
    let k = prefix_len is_name_byte bytes in
    let run = run_at is_name_byte bytes in
    let g = guard_some _ (Some run) n e in
    let both = and_parts _ _ g.0 in
    let len = length-prefix_len is_name_byte bytes in
    let low : 1 ≤ k = leb-true 1 k both.0 in
    let high : k ≤ 64 = leb-true k 64 both.1 in
    let name : Takes (Name run.0) bytes run.1 = record {
      front = run.0;
      whole = (run_taken is_name_byte bytes).whole;
      is = ((run_passes is_name_byte bytes, omega arith, omega arith), refl);
    } in
    subst (λ v. Takes (Name v.0) bytes v.1) (some_is run n g.1) name

bare_found : (bytes : List ℕ) (v : List ℕ × List ℕ) → bare_at bytes ≡ Some v → Takes (Value v.0) bytes v.1
unfolding bare_at
bare_found bytes v e =
    let run = run_at is_bare bytes in
    let g = guard_some (begins is_bare bytes) (Some run) v e in
    let value : Takes (Value run.0) bytes run.1 = record {
      front = run.0;
      whole = (run_taken is_bare bytes).whole;
      is = inl (run_passes is_bare bytes, run_some is_bare bytes g.0, refl);
    } in
    subst (λ w. Takes (Value w.0) bytes w.1) (some_is run v g.1) value

-- ---- between quotes

-- a byte of quotes whose spelling computes to these bytes
abbrev ByteIs : List ℕ → Option (Option ℕ × List ℕ) → Type 0
ByteIs bytes read =
    ((mid : List ℕ) → read ≡ Some (None, mid) → bytes ≡ mid)
    × ((mid : List ℕ) (b : ℕ) → read ≡ Some (Some b, mid) → bytes ≡ in_quotes b ++ mid)

abbrev found_byte : ℕ → List ℕ → Option (Option ℕ × List ℕ)
found_byte b rest = Some (Some b, rest)

byte_is : (bytes : List ℕ) (b : ℕ) (rest : List ℕ) → bytes ≡ in_quotes b ++ rest → ByteIs bytes (found_byte b rest)
byte_is bytes b rest e = (
  (λ mid h. let p : Some b ≡ None = (found_parts (Some b) None rest mid h).0 in absurd cc),
  (λ mid c h. let both = found_parts (Some b) (Some c) rest mid h in
      e ∙ ap (λ d. in_quotes d ++ rest) (some_is b c both.0) ∙ ap (λ (t : List ℕ). in_quotes c ++ t) both.1),
)

none_is : (bytes : List ℕ) → ByteIs bytes None
none_is bytes = ((λ mid h. absurd cc), (λ mid b h. absurd cc))

abbrev no_byte : Option ℕ
no_byte = None

stop_is : (bytes : List ℕ) → ByteIs bytes (Some (None, bytes))
stop_is bytes = (
  (λ mid h. (found_parts no_byte no_byte bytes mid h).1),
  (λ mid c h. let p : None ≡ Some c = (found_parts no_byte (Some c) bytes mid h).0 in absurd cc),
)

pair_cases : (c : ℕ) (rest : List ℕ) (u v w : Bool) → (c == 34) ≡ u → (c == 92) ≡ v → (c == 48) ≡ w
    → ByteIs (92 ∷ c
    ∷ rest) (cond u (found_byte 34 rest) (cond v (found_byte 92 rest) (cond w (found_byte 0 rest) None)))
pair_cases c rest true v w a b d = byte_is (92 ∷ c ∷ rest) 34 rest (ap (λ x. 92 ∷ x ∷ rest) (eqb-true c 34 a))
pair_cases c rest false true w a b d = byte_is (92 ∷ c ∷ rest) 92 rest (ap (λ x. 92 ∷ x ∷ rest) (eqb-true c 92 b))
pair_cases c rest false false true a b d = byte_is (92 ∷ c ∷ rest) 0 rest (ap (λ x. 92 ∷ x ∷ rest) (eqb-true c 48 d))
pair_cases c rest false false false a b d = none_is (92 ∷ c ∷ rest)

pair_is : (t : List ℕ) → ByteIs (92 ∷ t) (pair_at t)
pair_is [] = none_is (92 ∷ [])
pair_is (c ∷ rest) = pair_cases c rest (c == 34) (c == 92) (c == 48) refl refl refl

plain_is : (b : ℕ) (rest : List ℕ) → (b == 34) ≡ false → (b == 92) ≡ false → (b == 0) ≡ false
    → b ∷ rest ≡ in_quotes b ++ rest
plain_is b rest x y z =
    sym (ap (λ u. cond u (92 ∷ 34 ∷ []) (cond (b == 92) (92 ∷ 92 ∷ []) (cond (b == 0) (92 ∷ 48 ∷ []) (b ∷ []))) ++ rest)
    x
    ∙ ap (λ u. cond u (92 ∷ 92 ∷ []) (cond (b == 0) (92 ∷ 48 ∷ []) (b ∷ [])) ++ rest) y
    ∙ ap (λ u. cond u (92 ∷ 48 ∷ []) (b ∷ []) ++ rest) z)

byte_cases : (b : ℕ) (rest : List ℕ) (u v w : Bool) → (b == 34) ≡ u → (b == 92) ≡ v → (b == 0) ≡ w
    → ByteIs (b ∷ rest) (cond u (Some (None, b ∷ rest)) (cond v (pair_at rest) (cond w None (found_byte b rest))))
byte_cases b rest true v w x y z = stop_is (b ∷ rest)
byte_cases b rest false true w x y z =
    subst (λ d. ByteIs (d ∷ rest) (pair_at rest)) (sym (eqb-true b 92 y)) (pair_is rest)
byte_cases b rest false false true x y z = none_is (b ∷ rest)
byte_cases b rest false false false x y z = byte_is (b ∷ rest) b rest (plain_is b rest x y z)

byte_found : (bytes : List ℕ) → ByteIs bytes (byte_at bytes)
unfolding byte_at
byte_found [] = stop_is []
byte_found (b ∷ rest) = byte_cases b rest (b == 34) (b == 92) (b == 0) refl refl refl

-- a first byte that is this one
first_is : (c : ℕ) (bytes : List ℕ) → begins (λ b. b == c) bytes ≡ true → bytes ≡ c ∷ drop 1 bytes
first_is c [] e = absurd cc
first_is c (b ∷ t) e = ap (λ d. d ∷ t) (eqb-true b c e)

quoted_found : (bytes : List ℕ) (v : List ℕ × List ℕ) → quoted_at bytes ≡ Some v
    → Takes (Repeated InQuotes v.0 >> Mark (34 ∷ [])) bytes v.1
unfolding quoted_at
quoted_found bytes v e =
    let m = bind_some (items_at byte_at (length bytes) bytes) _ v e in
    let inner : List ℕ × List ℕ = m.0 in
    let g = guard_some (begins (λ b. b == 34) inner.1) (Some (inner.0, drop 1 inner.1)) v m.2 in
    let items : Takes (Repeated InQuotes inner.0) bytes inner.1 =
    items_found InQuotes byte_at (λ x mid h. (byte_found x).0 mid h)
    (λ x mid a h. record { front = in_quotes a; whole = (byte_found x).1 mid a h; is = refl })
    (length bytes) bytes inner m.1 in
    let quote : Takes (Mark (34 ∷ [])) inner.1 (drop 1 inner.1) = record
    { front = 34 ∷ []; whole = first_is 34 inner.1 g.0; is = refl } in
    let all : List ℕ × List ℕ = (inner.0, drop 1 inner.1) in
    subst (λ w. Takes (Repeated InQuotes w.0 >> Mark (34 ∷ [])) bytes w.1) (some_is all v g.1)
    (takes_then (Repeated InQuotes inner.0) (Mark (34 ∷ [])) bytes inner.1 (drop 1 inner.1) items quote)

value_cases : (bytes : List ℕ) (v : List ℕ × List ℕ) (u : Bool) → begins (λ b. b == 34) bytes ≡ u
    → cond u (quoted_at (drop 1 bytes)) (bare_at bytes) ≡ Some v → Takes (Value v.0) bytes v.1
value_cases bytes v true q e =
    let quote : Takes (Mark (34 ∷ [])) bytes (drop 1 bytes) = record
    { front = 34 ∷ []; whole = first_is 34 bytes q; is = refl } in
    let t = takes_then (Mark (34 ∷ [])) (Repeated InQuotes v.0 >> Mark (34 ∷ [])) bytes (drop 1 bytes) v.1 quote
    (quoted_found (drop 1 bytes) v e) in
    record { front = t.front; whole = t.whole; is = inr t.is }
value_cases bytes v false q e = bare_found bytes v e

pub value_found : (bytes : List ℕ) (v : List ℕ × List ℕ) → value_at bytes ≡ Some v → Takes (Value v.0) bytes v.1
unfolding value_at
value_found bytes v e = value_cases bytes v (begins (λ b. b == 34) bytes) refl e

-- ---- options

letter_of_found : (bytes : List ℕ) (x : ℕ × List ℕ) → letter_of bytes ≡ Some x
    → (is_letter x.0 ≡ true) × (bytes ≡ 45 ∷ x.0 ∷ x.1)
letter_of_found [] x e = absurd cc
letter_of_found (d ∷ []) x e = absurd cc
letter_of_found (d ∷ l ∷ rest) x e =
    let one : ℕ × List ℕ = (l, rest) in
    let g = guard_some (d == 45 && is_letter l) (Some one) x e in
    let both = and_parts (d == 45) (is_letter l) g.0 in
    subst (λ y. (is_letter y.0 ≡ true) × (d ∷ l ∷ rest ≡ 45 ∷ y.0 ∷ y.1)) (some_is one x g.1)
    (both.1, ap (λ c. c ∷ l ∷ rest) (eqb-true d 45 both.0))

argument_found : (bytes : List ℕ) (o : Option (ℕ × List ℕ)) (y : Option (ℕ × List ℕ) × List ℕ) → letter_at bytes ≡ o
    → argument_of o bytes ≡ Some y
    → (y.0 ≡ None → bytes ≡ y.1) × ((a : ℕ × List ℕ) → y.0 ≡ Some a → Takes (Given a) bytes y.1)
unfolding letter_at
argument_found bytes None y l e =
    let none : Option (ℕ × List ℕ) × List ℕ = (None, bytes) in
    let same : none ≡ y = some_is none y e in (
      (λ h. ap (λ (v : Option (ℕ × List ℕ) × List ℕ). v.1) same),
      (λ a h. let p : None ≡ y.0 = ap (λ (v : Option (ℕ × List ℕ) × List ℕ). v.0) same in absurd cc),
    )
argument_found bytes (Some x) y l e =
    let s = bind_some (spaces_at bytes) letter_of x l in
    let m = letter_of_found s.0 x s.2 in
    let t = bind_some (spaces_at x.1) _ y e in
    let v = bind_some (value_at t.0) _ y t.2 in
    let value : List ℕ × List ℕ = v.0 in
    let one : ℕ × List ℕ = (x.0, value.0) in
    let all : Option (ℕ × List ℕ) × List ℕ = (Some one, value.1) in
    let same : all ≡ y = some_is all y v.2 in
    let dash : Takes (Mark (45 ∷ x.0 ∷ [])) s.0 x.1 = record { front = 45 ∷ x.0 ∷ []; whole = m.1; is = refl } in
    let behind : Takes (SomeSpaces >> Value value.0) x.1 value.1 = takes_then SomeSpaces (Value value.0) x.1 t.0 value.1
    (spaces_found x.1 t.0 t.1) (value_found t.0 value v.1) in
    let joined = takes_then (Mark (45 ∷ x.0 ∷ [])) (SomeSpaces >> Value value.0) s.0 x.1 value.1 dash behind in
    let argument : Takes (Argument one) s.0 value.1 = record {
      front = joined.front;
      whole = joined.whole;
      is =
          (m.0, joined.is);
    } in
    let given : Takes (Given one) bytes value.1 = takes_then SomeSpaces (Argument one) bytes s.0 value.1
    (spaces_found bytes s.0 s.1) argument in
    subst (λ w. (w.0 ≡ None → bytes ≡ w.1) × ((a : ℕ × List ℕ) → w.0 ≡ Some a → Takes (Given a) bytes w.1)) same
    ((λ h. absurd cc), (λ a h. subst (λ b. Takes (Given b) bytes value.1) (some_is one a h) given))

option_found : (bytes : List ℕ) (y : Option (ℕ × List ℕ) × List ℕ) → option_at bytes ≡ Some y
    → (y.0 ≡ None → bytes ≡ y.1) × ((a : ℕ × List ℕ) → y.0 ≡ Some a → Takes (Given a) bytes y.1)
unfolding option_at
option_found bytes y e = argument_found bytes (letter_at bytes) y refl e

options_found : (bytes : List ℕ) (y : List (ℕ × List ℕ) × List ℕ) → options_at bytes ≡ Some y
    → Takes (Repeated Given y.0) bytes y.1
unfolding options_at
options_found bytes y e =
    items_found Given option_at (λ x mid h. (option_found x (None, mid) h).0 refl)
    (λ x mid a h. (option_found x (Some a, mid) h).1 a refl) (length bytes) bytes y e

-- ---- the ending

-- the text of a payload, with its spaces
abbrev pub TextEnding : List ℕ → Rule
TextEnding text = SomeSpaces >> Mark (45 ∷ 45 ∷ []) >> SomeSpaces >> Mark text >> Spaces

zero_is : (n : ℕ) → (n == 0) ≡ true → n ≡ 0
zero_is n e = eqb-true n 0 e

text_found : (bytes text : List ℕ) → text_at bytes ≡ Some text → (SomeSpaces >> Mark text >> Spaces) bytes
unfolding text_at
text_found bytes text e =
    let s = bind_some (spaces_at bytes) _ text e in
    let run = run_at is_text s.0 in
    let g = guard_some (length (run_at is_space run.1).1 == 0) (Some run.0) text s.2 in
    let behind : (Mark run.0 >> Spaces) s.0 = takes_last (Mark run.0) Spaces s.0 run.1 (run_taken is_text s.0)
    (run_all is_space run.1 (zero_is _ g.0)) in
    takes_last SomeSpaces (Mark text >> Spaces) bytes s.0 (spaces_found bytes s.0 s.1)
    (subst (λ t. (Mark t >> Spaces) s.0) (some_is run.0 text g.1) behind)

dashed_found : (bytes rest : List ℕ) → dashed bytes ≡ Some rest → bytes ≡ 45 ∷ 45 ∷ rest
dashed_found [] rest e = absurd cc
dashed_found (a ∷ []) rest e = absurd cc
dashed_found (a ∷ b ∷ t) rest e =
    let g = guard_some (a == 45 && b == 45) (Some t) rest e in
    let both = and_parts (a == 45) (b == 45) g.0 in
    ap (λ x. x ∷ b ∷ t) (eqb-true a 45 both.0) ∙ ap (λ x. 45 ∷ x ∷ t) (eqb-true b 45 both.1)
    ∙ ap (λ (x : List ℕ). 45 ∷ 45 ∷ x) (some_is t rest g.1)

-- what the end of a line is, by the text of its payload
abbrev pub EndingOf : Option (List ℕ) → Rule
EndingOf None = Spaces
EndingOf (Some text) = TextEnding text

ending_cases : (bytes : List ℕ) (o : Option (List ℕ)) (u : Bool) → (length (run_at is_space bytes).1 == 0) ≡ u
    → cond u (Some None) (spaces_at bytes >>= λ dashes. dashed dashes >>= λ rest. text_at rest
    >>= λ text. Some (Some text)) ≡ Some o → EndingOf o bytes
ending_cases bytes o true z e =
    let none : Option (List ℕ) = None in
    subst (λ p. EndingOf p bytes) (some_is none o e) (run_all is_space bytes (zero_is _ z))
ending_cases bytes o false z e =
    let s = bind_some (spaces_at bytes) _ o e in
    let d = bind_some (dashed s.0) _ o s.2 in
    let t = bind_some (text_at d.0) _ o d.2 in
    let some : Option (List ℕ) = Some t.0 in
    let dashes : Takes (Mark (45 ∷ 45 ∷ [])) s.0 d.0 = record
    { front = 45 ∷ 45 ∷ []; whole = dashed_found s.0 d.0 d.1; is = refl } in
    let behind = takes_last (Mark (45 ∷ 45 ∷ [])) (SomeSpaces >> Mark t.0 >> Spaces) s.0 d.0 dashes
    (text_found d.0 t.0 t.1) in
    subst (λ p. EndingOf p bytes) (some_is some o t.2) (takes_last SomeSpaces
    (Mark (45 ∷ 45 ∷ []) >> SomeSpaces >> Mark t.0 >> Spaces) bytes s.0 (spaces_found bytes s.0 s.1) behind)

ending_found : (bytes : List ℕ) (o : Option (List ℕ)) → ending_at bytes ≡ Some o → EndingOf o bytes
unfolding ending_at
ending_found bytes o e = ending_cases bytes o (length (run_at is_space bytes).1 == 0) refl e

abbrev pub PartsOf : List ℕ × List (ℕ × List ℕ) × Option (List ℕ) → Rule
PartsOf p = Name p.0 >> Repeated Given p.1 >> EndingOf p.2

pub parts_found : (bytes : List ℕ) (p : List ℕ × List (ℕ × List ℕ) × Option (List ℕ)) → parts_at bytes ≡ Some p
    → PartsOf p bytes
unfolding parts_at
parts_found bytes p e =
    let n = bind_some (name_at bytes) _ p e in
    let o = bind_some (options_at n.0.1) _ p n.2 in
    let t = bind_some (ending_at o.0.1) _ p o.2 in
    let all : List ℕ × List (ℕ × List ℕ) × Option (List ℕ) = (n.0.0, o.0.0, t.0) in
    subst (λ q. PartsOf q bytes) (some_is all p t.2)
    (takes_last (Name all.0) (Repeated Given all.1 >> EndingOf all.2) bytes n.0.1 (name_found bytes n.0 n.1)
    (takes_last (Repeated Given all.1) (EndingOf all.2) n.0.1 o.0.1 (options_found n.0.1 o.0 o.1)
    (ending_found o.0.1 t.0 t.1)))

-- a text that is the encoding of a payload
text_payload : (text payload bytes : List ℕ) → IsBytes payload → text ≡ encode_of standard payload
    → TextEnding text bytes → Ending (Some payload) bytes
text_payload text payload bytes fits e j =
    let s = j.second.second in
    record {
      front = j.front;
      back = j.back;
      whole = j.whole;
      first = j.first;
      second = record {
        front = j.second.front;
        back = j.second.back;
        whole = j.second.whole;
        first = j.second.first;
        second = record {
          front = s.front;
          back = s.back;
          whole = s.whole;
          first = s.first;
          second =
              record {
                front = s.second.front;
                back = s.second.back;
                whole = s.second.whole;
                first =
                    (fits, s.second.first ∙ e);
                second = s.second.second;
              };
        };
      };
    }

with_ending : (name : List ℕ) (options : List (ℕ × List ℕ)) (a b : List ℕ → Type 0) (bytes : List ℕ)
    → ((t : List ℕ) → a t → b t) → (Name name >> Repeated Given options >> a) bytes
    → (Name name >> Repeated Given options >> b) bytes
with_ending name options a b bytes f j = record {
  front = j.front;
  back = j.back;
  whole = j.whole;
  first = j.first;
  second =
      record {
        front = j.second.front;
        back = j.second.back;
        whole = j.second.whole;
        first = j.second.first;
        second = f
            j.second.back j.second.second;
      };
}

pub some_found : (bytes name text payload : List ℕ) (options : List (ℕ × List ℕ))
    → parts_at bytes ≡ Some (name, options, Some text) → IsBytes payload → text ≡ encode_of standard payload
    → (Name name >> Repeated Given options >> Ending (Some payload)) bytes
some_found bytes name text payload options e fits is =
    with_ending name options (TextEnding text) (Ending (Some payload)) bytes
    (λ t h. text_payload text payload t fits is h) (parts_found bytes (name, options, Some text) e)

pub none_found : (bytes name : List ℕ) (options : List (ℕ × List ℕ)) → parts_at bytes ≡ Some (name, options, None)
    → (Name name >> Repeated Given options >> Ending None) bytes
none_found bytes name options e = parts_found bytes (name, options, None) e
