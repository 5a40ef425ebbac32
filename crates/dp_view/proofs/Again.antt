-- What is spelt so is read.
use Rattle.std.proofs.Common.{◌≡◌, ℕ, ◌≤◌, Bool, true, false, cond, not, ◌&&◌, ◌||◌, ◌==◌, List, [], ◌∷◌, ◌++◌, length, drop, Option, Some, None, refl, sym, ap, subst, ◌∙◌, append_assoc, length-append, arith, inl, inr, ℤ}
use Rattle.std.specs.Prelude.{nat_eq}
use Rattle.std.specs.List.{prefix_len, list_all}
use Rattle.std.specs.Char.{is_ascii_digit}
use Rattle.std.specs.Cmp.Lexicographic.{pointwise}
use Rattle.std.specs.Str.Parse.{signed_digits_value}
use Rattle.std.proofs.lemmas.Bool.{eqb-true, le-leb, and_parts, and_from}
use Rattle.std.proofs.lemmas.List.{append-nil}
use Rattle.dp_lexer.specs.Bytes.{is_start, is_part, begins, Each}
use Rattle.dp_lexer.specs.Pieces.{IsName, longest_name}
use Rattle.dp_state.specs.declared.moments.Path.{Path}
use Rattle.dp_value.specs.declared.key.Key.{Key}
use Rattle.dp_value.specs.declared.key.Key.TheVariants.{Int}
use Rattle.dp_bytes.specs.IntText.{int_of_text, is_int_form, is_in_64_bits, is_positive, without_minus}
use Rattle.dp_value.specs.KeyOf.{key_of_text}
use Rattle.dp_view.specs.Grammar.{Repeated, Dollar, IsQuote, is_plain, pair_of, Within, Quoted, Inner, Index, spelt}
use Rattle.dp_view.specs.NameReader.{◌>>=◌, run_at, behind, without_dollar, name_at, items_at, pair_at, byte_at, quoted_at, is_int_byte, int_at, key_at, index_at, keys_at, path_at}
use Rattle.dp_grammar.proofs.Runs.{guard_some, run_again, run_exact}
use Rattle.dp_grammar.proofs.Sequences.{before_items, items_again, items_few}

not_true : (b : Bool) → not b ≡ true → b ≡ false
not_true true e = absurd cc
not_true false e = refl

-- a byte of a sort that has not this one
other_byte : (sort : ℕ → Bool) (c b : ℕ) → sort c ≡ false → sort b ≡ true → (b == c) ≡ false
other_byte sort c b wrong right = go (b == c) refl
  where
    go : (u : Bool) → (b == c) ≡ u → (b == c) ≡ false
    go true e = let p : true ≡ false = sym right ∙ ap sort (eqb-true b c e) ∙ wrong in absurd cc
    go false e = e

-- ---- names

each_part : (name : List ℕ) → IsName name → Each is_part name
each_part [] is = elim is [ ]
each_part (b ∷ t) is = (rw is.0 refl, is.1)

name_again : (name rest : List ℕ) → IsName name → length name ≤ longest_name → begins is_part rest ≡ false
    → name_at (name ++ rest) ≡ Some (name, rest)
unfolding name_at
name_again [] rest is short stops = elim is [ ]
name_again (b ∷ t) rest is short stops =
    let name : List ℕ = b ∷ t in
    let k = prefix_len is_part (name ++ rest) in
    let len : k ≡ length name = run_exact is_part name rest (each_part name is) stops in
    let high : k ≤ longest_name = omega (arith, short, len) in
    ap (λ c. cond c (Some (run_at is_part (name ++ rest))) None) (and_from _ _ is.0 (le-leb k longest_name high))
    ∙ ap (λ (v : List ℕ × List ℕ). Some v) (run_again is_part name rest (each_part name is) stops)

undollared : (name rest : List ℕ) → IsName name → without_dollar (name ++ rest) ≡ name ++ rest
undollared [] rest is = elim is [ ]
undollared (b ∷ t) rest is = ap (λ u. cond u (t ++ rest) (b ∷ (t ++ rest))) (other_byte is_start 36 b refl is.0)

dollar_again : (front name rest : List ℕ) → Dollar front → IsName name
    → without_dollar (front ++ (name ++ rest)) ≡ name ++ rest
dollar_again front name rest (inl e) is = ap (λ (t : List ℕ). without_dollar (t ++ (name ++ rest))) e
dollar_again front name rest (inr e) is =
    ap (λ (t : List ℕ). without_dollar (t ++ (name ++ rest))) e ∙ undollared name rest is

-- ---- between quotes

abbrev found_byte : ℕ → List ℕ → Option (Option ℕ × List ℕ)
found_byte b rest = Some (Some b, rest)

plain_again : (quote b : ℕ) (tail : List ℕ) → is_plain quote b ≡ true → byte_at quote (b ∷ tail) ≡ found_byte b tail
unfolding byte_at
plain_again quote b tail e =
    let one = and_parts (not (b == quote) && not (b == 92)) (not (b == 0)) e in
    let two = and_parts (not (b == quote)) (not (b == 92)) one.0 in
    ap (λ u. cond u (Some (None, b ∷ tail)) (cond (b == 92) (pair_at quote tail)
    (cond (b == 0) None (found_byte b tail)))) (not_true (b == quote) two.0)
    ∙ ap (λ u. cond u (pair_at quote tail) (cond (b == 0) None (found_byte b tail))) (not_true (b == 92) two.1)
    ∙ ap (λ u. cond u None (found_byte b tail)) (not_true (b == 0) one.1)

-- no quote is a backslash
not_backslash : (quote : ℕ) → IsQuote quote → (92 == quote) ≡ false
not_backslash quote (inl e) = subst (λ (q : ℕ). (92 == q) ≡ false) (sym e) refl
not_backslash quote (inr e) = subst (λ (q : ℕ). (92 == q) ≡ false) (sym e) refl

pair_again : (quote c b : ℕ) (tail : List ℕ) → IsQuote quote → pair_of quote c ≡ Some b
    → byte_at quote (92 ∷ c ∷ tail) ≡ found_byte b tail
unfolding byte_at
pair_again quote c b tail is e =
    ap (λ u. cond u (Some (None, 92 ∷ c ∷ tail)) (pair_at quote (c ∷ tail))) (not_backslash quote is)
    ∙ ap (λ (o : Option ℕ). o >>= λ b. found_byte b tail) e

byte_again : (quote b : ℕ) (front tail : List ℕ) → IsQuote quote → Within quote b front
    → byte_at quote (front ++ tail) ≡ found_byte b tail
byte_again quote b front tail is (inl p) =
    ap (λ (t : List ℕ). byte_at quote (t ++ tail)) p.1 ∙ plain_again quote b tail p.0
byte_again quote b front tail is (inr p) =
    ap (λ (t : List ℕ). byte_at quote (t ++ tail)) p.2 ∙ pair_again quote p.0 b tail is p.1

within_some : (quote b : ℕ) (front : List ℕ) → Within quote b front → 1 ≤ length front
within_some quote b front (inl p) = omega (arith, ap length p.1)
within_some quote b front (inr p) = omega (arith, ap length p.2)

quote_ends : (quote : ℕ) (rest : List ℕ) → IsQuote quote → byte_at quote (quote ∷ rest) ≡ Some (None, quote ∷ rest)
unfolding byte_at
quote_ends quote rest (inl e) = subst (λ (q : ℕ). byte_at q (q ∷ rest) ≡ Some (None, q ∷ rest)) (sym e) refl
quote_ends quote rest (inr e) = subst (λ (q : ℕ). byte_at q (q ∷ rest) ≡ Some (None, q ∷ rest)) (sym e) refl

behind_quote : (quote : ℕ) (rest : List ℕ) → IsQuote quote → behind quote (quote ∷ rest) ≡ Some rest
behind_quote quote rest (inl e) = subst (λ (q : ℕ). behind q (q ∷ rest) ≡ Some rest) (sym e) refl
behind_quote quote rest (inr e) = subst (λ (q : ℕ). behind q (q ∷ rest) ≡ Some rest) (sym e) refl

quoted_again : (quote : ℕ) (value inner rest : List ℕ) → IsQuote quote → Repeated (Within quote) value inner
    → quoted_at quote (inner ++ (quote ∷ rest)) ≡ Some (key_of_text value, rest)
unfolding quoted_at
quoted_again quote value inner rest is items =
    let all = inner ++ (quote ∷ rest) in
    let few : length value ≤ length all = omega (
      arith,
      items_few (Within quote) (within_some quote) value inner items,
      length-append inner (quote ∷ rest),
    ) in
    ap (λ (o : Option (List ℕ × List ℕ)). o >>= λ v. behind quote v.1 >>= λ r. Some (key_of_text v.0, r))
    (items_again (Within quote) (byte_at quote) (λ _. Unit {0}) (quote ∷ rest) (λ a f t r. tt) tt
    (λ a f t r _. byte_again quote a f t is r) (quote_ends quote rest is) (length all) value inner items few)
    ∙ ap (λ (o : Option (List ℕ)). o >>= λ r. Some (key_of_text value, r)) (behind_quote quote rest is)

-- ---- integers

digits_each : (text : List ℕ) → list_all is_ascii_digit text ≡ true → Each is_int_byte text
digits_each [] e = tt
digits_each (c ∷ cs) e =
    let both = and_parts (is_ascii_digit c) (list_all is_ascii_digit cs) e in
    (ap (λ u. u || c == 45) both.0, digits_each cs both.1)

positive_each : (text : List ℕ) → is_positive text ≡ true → Each is_int_byte text
positive_each [] e = tt
positive_each (c ∷ cs) e = digits_each (c ∷ cs) (and_parts (not (c == 48)) (list_all is_ascii_digit (c ∷ cs)) e).1

signed_each : (c : ℕ) (cs : List ℕ) (u : Bool) → (c == 45) ≡ u → is_positive (cond u cs (c ∷ cs)) ≡ true
    → Each is_int_byte (c ∷ cs)
signed_each c cs true m e = (subst (λ (x : ℕ). is_int_byte x ≡ true) (sym (eqb-true c 45 m)) refl, positive_each cs e)
signed_each c cs false m e = positive_each (c ∷ cs) e

zero_each : (c : ℕ) (cs : List ℕ) → pointwise nat_eq (c ∷ cs) (48 ∷ []) ≡ true → Each is_int_byte (c ∷ cs)
zero_each c [] e =
    (subst (λ (x : ℕ). is_int_byte x ≡ true) (sym (eqb-true c 48 (and_parts (nat_eq c 48) true e).0)) refl, tt)
zero_each c (d ∷ cs) e = let p : false ≡ true = (and_parts (nat_eq c 48) false e).1 in absurd cc

form_cases : (c : ℕ) (cs : List ℕ) (u : Bool) → pointwise nat_eq (c ∷ cs) (48 ∷ []) ≡ u
    → (u || is_positive (without_minus (c ∷ cs))) ≡ true → Each is_int_byte (c ∷ cs)
form_cases c cs true z e = zero_each c cs z
form_cases c cs false z e = signed_each c cs (c == 45) refl e

-- a text that spells an integer begins with a byte of one, and has no other
abbrev IsIntText : List ℕ → Type 0
IsIntText text = (begins is_int_byte text ≡ true) × Each is_int_byte text

int_bytes : (text : List ℕ) (n : ℤ) → int_of_text text ≡ Some n → IsIntText text
int_bytes [] n e = absurd cc
int_bytes (c ∷ cs) n e =
    let text : List ℕ = c ∷ cs in
    let value = signed_digits_value 10 text in
    let g = guard_some (is_int_form text && is_in_64_bits value) (Some value) n e in
    let form = (and_parts (is_int_form text) (is_in_64_bits value) g.0).0 in
    let each = form_cases c cs (pointwise nat_eq text (48 ∷ [])) refl form in
    (each.0, each)

no_quote : (quote : ℕ) (text rest : List ℕ) → is_int_byte quote ≡ false → begins is_int_byte text ≡ true
    → begins (λ b. b == quote) (text ++ rest) ≡ false
no_quote quote [] rest wrong right = absurd cc
no_quote quote (b ∷ t) rest wrong right = other_byte is_int_byte quote b wrong right

int_again : (text rest : List ℕ) (n : ℤ) → int_of_text text ≡ Some n
    → int_at (text ++ (93 ∷ rest)) ≡ Some (Int n, 93 ∷ rest)
unfolding int_at
int_again text rest n e =
    ap (λ (v : List ℕ × List ℕ). int_of_text v.0 >>= λ n. Some (Int n, v.1))
    (run_again is_int_byte text (93 ∷ rest) (int_bytes text n e).1 refl)
    ∙ ap (λ (o : Option ℤ). o >>= λ n. Some (Int n, 93 ∷ rest)) e

-- ---- keys

abbrev key_by : Bool → Bool → List ℕ → Option (Key × List ℕ)
key_by u v bytes = cond u (quoted_at 34 (drop 1 bytes)) (cond v (quoted_at 39 (drop 1 bytes)) (int_at bytes))

int_key_again : (key : Key) (text rest : List ℕ) (n : ℤ) → int_of_text text ≡ Some n → key ≡ Int n
    → key_at (text ++ (93 ∷ rest)) ≡ Some (key, 93 ∷ rest)
unfolding key_at
int_key_again key text rest n e k =
    let bytes = text ++ (93 ∷ rest) in
    let first = (int_bytes text n e).0 in
    ap (λ u. key_by u (begins (λ b. b == 39) bytes) bytes) (no_quote 34 text (93 ∷ rest) refl first)
    ∙ ap (λ v. key_by false v bytes) (no_quote 39 text (93 ∷ rest) refl first)
    ∙ int_again text rest n e
    ∙ ap (λ (x : Key). Some (x, 93 ∷ rest)) (sym k)

opened_again : (quote : ℕ) (tail : List ℕ) → IsQuote quote → key_at (quote ∷ tail) ≡ quoted_at quote tail
unfolding key_at
opened_again quote tail (inl e) = subst (λ (q : ℕ). key_at (q ∷ tail) ≡ quoted_at q tail) (sym e) refl
opened_again quote tail (inr e) = subst (λ (q : ℕ). key_at (q ∷ tail) ≡ quoted_at q tail) (sym e) refl

text_key_again : (key : Key) (quote : ℕ) (value front rest : List ℕ) → IsQuote quote → Quoted quote value front
    → key ≡ key_of_text value → key_at (front ++ (93 ∷ rest)) ≡ Some (key, 93 ∷ rest)
text_key_again key quote value front rest is q k =
    let i = q.second in
    let close : List ℕ = quote ∷ 93 ∷ rest in
    let back : q.back ++ (93 ∷ rest) ≡ i.front ++ close =
    ap (λ (t : List ℕ). t ++ (93 ∷ rest)) (i.whole ∙ ap (λ (t : List ℕ). i.front ++ t) i.second)
    ∙ append_assoc i.front (quote ∷ []) (93 ∷ rest) in
    let all : front ++ (93 ∷ rest) ≡ quote ∷ (i.front ++ close) =
    ap (λ (t : List ℕ). t ++ (93 ∷ rest)) (q.whole ∙ ap (λ (t : List ℕ). t ++ q.back) q.first)
    ∙ ap (λ (t : List ℕ). quote ∷ t) back in
    ap key_at all ∙ opened_again quote (i.front ++ close) is ∙ quoted_again quote value i.front (93 ∷ rest) is i.first
    ∙ ap (λ (x : Key). Some (x, 93 ∷ rest)) (sym k)

key_again : (key : Key) (front rest : List ℕ) → Inner key front → key_at (front ++ (93 ∷ rest)) ≡ Some (key, 93 ∷ rest)
key_again key front rest (inl p) = int_key_again key front rest p.0 p.1 p.2
key_again key front rest (inr p) = text_key_again key p.0 p.1 front rest p.2 p.3 p.4

-- ---- indices

index_spelt : (key : Key) (front tail : List ℕ) (i : Index key front)
    → front ++ tail ≡ 91 ∷ (i.second.front ++ (93 ∷ tail))
index_spelt key front tail i =
    let s = i.second in
    let back : i.back ++ tail ≡ s.front ++ (93 ∷ tail) =
    ap (λ (t : List ℕ). t ++ tail) (s.whole ∙ ap (λ (t : List ℕ). s.front ++ t) s.second)
    ∙ append_assoc s.front (93 ∷ []) tail in
    ap (λ (t : List ℕ). t ++ tail) (i.whole ∙ ap (λ (t : List ℕ). t ++ i.back) i.first)
    ∙ ap (λ (t : List ℕ). 91 ∷ t) back

index_again : (key : Key) (front tail : List ℕ) → Index key front → index_at (front ++ tail) ≡ Some (Some key, tail)
unfolding index_at
index_again key front tail i =
    ap index_at (index_spelt key front tail i)
    ∙ ap (λ (o : Option (Key × List ℕ)). o >>= λ k. behind 93 k.1 >>= λ r. Some (Some k.0, r))
    (key_again key i.second.front tail i.second.first)

index_some : (key : Key) (front : List ℕ) → Index key front → 1 ≤ length front
index_some key front i = omega (arith, ap length (sym (append-nil front) ∙ index_spelt key front [] i))

no_index : index_at [] ≡ Some (None, [])
unfolding index_at
no_index = refl

index_starts : (key : Key) (front tail : List ℕ) → Index key front → begins is_part (front ++ tail) ≡ false
index_starts key front tail i = ap (begins is_part) (index_spelt key front tail i)

keys_start : (keys : List Key) (front : List ℕ) → Repeated Index keys front → begins is_part front ≡ false
keys_start keys front items =
    subst (λ (t : List ℕ). begins is_part t ≡ false) (append-nil front)
    (before_items Index (λ t. begins is_part t ≡ false) [] index_starts refl keys front items)

keys_again : (keys : List Key) (bytes : List ℕ) → Repeated Index keys bytes → keys_at bytes ≡ Some keys
unfolding keys_at
keys_again keys bytes items =
    let few = items_few Index index_some keys bytes items in
    let read : items_at index_at (length bytes) bytes ≡ Some (keys, []) =
    ap (items_at index_at (length bytes)) (sym (append-nil bytes))
    ∙ items_again Index index_at (λ _. Unit {0}) [] (λ a f t r. tt) tt (λ a f t r _. index_again a f t r) no_index
    (length bytes) keys bytes items few in
    ap (λ (o : Option (List Key × List ℕ)). o >>= λ found. cond (length found.1 == 0) (Some found.0) None) read

pub path_again : (bytes : List ℕ) (path : Path) → spelt bytes path → path_at bytes ≡ Some path
unfolding path_at
path_again bytes path j =
    let n = j.second in
    let name = path.name in
    let rest = n.back in
    let back : j.back ≡ name ++ rest = n.whole ∙ ap (λ (t : List ℕ). t ++ rest) n.first.1 in
    let bare : without_dollar bytes ≡ name ++ rest =
    ap without_dollar (j.whole ∙ ap (λ (t : List ℕ). j.front ++ t) back)
    ∙ dollar_again j.front name rest j.first n.first.0.0 in
    let named : name_at (without_dollar bytes) ≡ Some (name, rest) =
    ap name_at bare ∙ name_again name rest n.first.0.0 n.first.0.1 (keys_start path.keys rest n.second) in
    let with : List ℕ → List Key → Path = λ a b. record { name = a; keys = b } in
    ap (λ (o : Option (List ℕ × List ℕ)). o >>= λ v. keys_at v.1 >>= λ ks. Some (with v.0 ks)) named
    ∙ ap (λ (o : Option (List Key)). o >>= λ ks. Some (with name ks)) (keys_again path.keys rest n.second)
