-- What is read is spelt so.
use Rattle.std.proofs.Common.{◌≡◌, ℕ, ◌+◌, ◌≤◌, Bool, true, false, cond, ◌==◌, List, [], ◌∷◌, ◌++◌, length, take, drop, Option, Some, None, refl, sym, ap, subst, ◌∙◌, arith, inl, inr}
use Rattle.std.specs.List.{prefix_len}
use Rattle.std.proofs.lemmas.Bool.{eqb-true, leb-true, and_parts}
use Rattle.std.proofs.lemmas.List.{take-append-drop, append-nil, nil_from_length}
use Rattle.std.proofs.lemmas.List.Folds.{length-prefix_len}
use Rattle.dp_lexer.specs.Bytes.{is_start, is_part, begins}
use Rattle.dp_lexer.specs.Pieces.{IsName, longest_name}
use Rattle.dp_state.specs.declared.moments.Path.{Path}
use Rattle.dp_value.specs.declared.key.Key.{Key}
use Rattle.dp_value.specs.declared.key.Key.TheVariants.{Int}
use Rattle.dp_bytes.specs.IntText.{int_of_text}
use Rattle.dp_value.specs.KeyOf.{key_of_text}
use Rattle.dp_view.specs.Grammar.{◌>>◌, Mark, Repeated, Dollar, Name, IsQuote, is_plain, pair_of, Within, Inner, Index, spelt}
use Rattle.dp_view.specs.NameReader.{◌>>=◌, run_at, behind, without_dollar, name_at, items_at, pair_at, byte_at, quoted_at, is_int_byte, int_at, key_at, index_at, keys_at, path_at}
use Rattle.dp_grammar.proofs.Runs.{some_is, found_parts, bind_some, guard_some, run_passes, one_more}
use Rattle.dp_grammar.proofs.Sequences.{Takes, takes_then, takes_last, items_found}

-- a run at the front
abbrev run_taken : (p : ℕ → Bool) (bytes : List ℕ) → Takes (Mark (run_at p bytes).0) bytes (run_at p bytes).1
run_taken p bytes =
    record { front = (run_at p bytes).0; whole = sym (take-append-drop (prefix_len p bytes) bytes); is = refl }

behind_found : (b : ℕ) (bytes rest : List ℕ) → behind b bytes ≡ Some rest → bytes ≡ b ∷ rest
behind_found b [] rest e = absurd cc
behind_found b (c ∷ t) rest e =
    let g = guard_some (c == b) (Some t) rest e in
    ap (λ x. x ∷ t) (eqb-true c b g.0) ∙ ap (λ (x : List ℕ). b ∷ x) (some_is t rest g.1)

behind_takes : (b : ℕ) (bytes rest : List ℕ) → behind b bytes ≡ Some rest → Takes (Mark (b ∷ [])) bytes rest
behind_takes b bytes rest e = record { front = b ∷ []; whole = behind_found b bytes rest e; is = refl }

-- ---- names

part_of_start : (b : ℕ) → is_start b ≡ true → is_part b ≡ true
part_of_start b e = rw e refl

run_name : (bytes : List ℕ) → begins is_start bytes ≡ true → IsName (run_at is_part bytes).0
run_name [] e = absurd cc
run_name (b ∷ t) e =
    subst (λ (c : Bool). IsName (take (cond c (1 + prefix_len is_part t) 0) (b ∷ t))) (sym (part_of_start b e))
    (subst (λ (n : ℕ). IsName (take n (b ∷ t))) (one_more (prefix_len is_part t)) (e, run_passes is_part t))

name_found : (bytes : List ℕ) (n : List ℕ × List ℕ) → name_at bytes ≡ Some n → Takes (Name n.0) bytes n.1
unfolding name_at
name_found bytes n e =
    let k = prefix_len is_part bytes in
    let run = run_at is_part bytes in
    let g = guard_some _ (Some run) n e in
    let both = and_parts _ _ g.0 in
    let len = length-prefix_len is_part bytes in
    let high : k ≤ longest_name = leb-true k longest_name both.1 in
    let name : Takes (Name run.0) bytes run.1 = record {
      front = run.0;
      whole = (run_taken is_part bytes).whole;
      is = ((run_name bytes both.0, omega arith), refl);
    } in
    subst (λ v. Takes (Name v.0) bytes v.1) (some_is run n g.1) name

dollar_cases : (b : ℕ) (t : List ℕ) (u : Bool) → (b == 36) ≡ u → Takes Dollar (b ∷ t) (cond u t (b ∷ t))
dollar_cases b t true e = record { front = 36 ∷ []; whole = ap (λ x. x ∷ t) (eqb-true b 36 e); is = inl refl }
dollar_cases b t false e = record { front = []; whole = refl; is = inr refl }

dollar_found : (bytes : List ℕ) → Takes Dollar bytes (without_dollar bytes)
dollar_found [] = record { front = []; whole = refl; is = inr refl }
dollar_found (b ∷ t) = dollar_cases b t (b == 36) refl

-- ---- between quotes

-- a byte of quotes whose spelling computes to these bytes
abbrev ByteIs : ℕ → List ℕ → Option (Option ℕ × List ℕ) → Type 0
ByteIs quote bytes read =
    ((mid : List ℕ) → read ≡ Some (None, mid) → bytes ≡ mid)
    × ((mid : List ℕ) (b : ℕ) → read ≡ Some (Some b, mid) → Takes (Within quote b) bytes mid)

abbrev found_byte : ℕ → List ℕ → Option (Option ℕ × List ℕ)
found_byte b rest = Some (Some b, rest)

byte_is : (quote : ℕ) (bytes : List ℕ) (b : ℕ) (rest : List ℕ) → Takes (Within quote b) bytes rest
    → ByteIs quote bytes (found_byte b rest)
byte_is quote bytes b rest t = (
  (λ mid h. let p : Some b ≡ None = (found_parts (Some b) None rest mid h).0 in absurd cc),
  (λ mid c h. let both = found_parts (Some b) (Some c) rest mid h in
      let one : Takes (Within quote c) bytes rest = subst (λ d. Takes (Within quote d) bytes rest)
      (some_is b c both.0) t in
      subst (λ r. Takes (Within quote c) bytes r) both.1 one),
)

none_is : (quote : ℕ) (bytes : List ℕ) → ByteIs quote bytes None
none_is quote bytes = ((λ mid h. absurd cc), (λ mid b h. absurd cc))

abbrev no_byte : Option ℕ
no_byte = None

stop_is : (quote : ℕ) (bytes : List ℕ) → ByteIs quote bytes (Some (None, bytes))
stop_is quote bytes = (
  (λ mid h. (found_parts no_byte no_byte bytes mid h).1),
  (λ mid c h. let p : None ≡ Some c = (found_parts no_byte (Some c) bytes mid h).0 in absurd cc),
)

pair_cases : (quote c : ℕ) (rest : List ℕ) (o : Option ℕ) → pair_of quote c ≡ o
    → ByteIs quote (92 ∷ c ∷ rest) (o >>= λ b. found_byte b rest)
pair_cases quote c rest None e = none_is quote (92 ∷ c ∷ rest)
pair_cases quote c rest (Some b) e =
    let t : Takes (Within quote b) (92 ∷ c ∷ rest) rest = record
    { front = 92 ∷ c ∷ []; whole = refl; is = inr (c, e, refl) } in
    byte_is quote (92 ∷ c ∷ rest) b rest t

pair_is : (quote : ℕ) (t : List ℕ) → ByteIs quote (92 ∷ t) (pair_at quote t)
pair_is quote [] = none_is quote (92 ∷ [])
pair_is quote (c ∷ rest) = pair_cases quote c rest (pair_of quote c) refl

plain_is : (quote b : ℕ) → (b == quote) ≡ false → (b == 92) ≡ false → (b == 0) ≡ false → is_plain quote b ≡ true
plain_is quote b x y z = rw (x, y, z) refl

byte_cases : (quote b : ℕ) (rest : List ℕ) (u v w : Bool) → (b == quote) ≡ u → (b == 92) ≡ v → (b == 0) ≡ w
    → ByteIs quote (b
    ∷ rest) (cond u (Some (None, b ∷ rest)) (cond v (pair_at quote rest) (cond w None (found_byte b rest))))
byte_cases quote b rest true v w x y z = stop_is quote (b ∷ rest)
byte_cases quote b rest false true w x y z =
    subst (λ d. ByteIs quote (d ∷ rest) (pair_at quote rest)) (sym (eqb-true b 92 y)) (pair_is quote rest)
byte_cases quote b rest false false true x y z = none_is quote (b ∷ rest)
byte_cases quote b rest false false false x y z =
    let t : Takes (Within quote b) (b ∷ rest) rest = record {
      front = b
          ∷ [];
      whole = refl;
      is = inl (plain_is quote b x y z, refl);
    } in
    byte_is quote (b ∷ rest) b rest t

byte_found : (quote : ℕ) (bytes : List ℕ) → ByteIs quote bytes (byte_at quote bytes)
unfolding byte_at
byte_found quote [] = stop_is quote []
byte_found quote (b ∷ rest) = byte_cases quote b rest (b == quote) (b == 92) (b == 0) refl refl refl

-- ---- keys

-- a text up to its closing quote, which becomes this key
abbrev QuotedRest : ℕ → Key → List ℕ → List ℕ → Type 0
QuotedRest quote key bytes rest =
    (value : List ℕ) × (key ≡ key_of_text value) × Takes (Repeated (Within quote) value >> Mark (quote ∷ [])) bytes rest

quoted_found : (quote : ℕ) (bytes : List ℕ) (k : Key × List ℕ) → quoted_at quote bytes ≡ Some k
    → QuotedRest quote k.0 bytes k.1
unfolding quoted_at
quoted_found quote bytes k e =
    let m = bind_some (items_at (byte_at quote) (length bytes) bytes) _ k e in
    let inner : List ℕ × List ℕ = m.0 in
    let r = bind_some (behind quote inner.1) _ k m.2 in
    let items : Takes (Repeated (Within quote) inner.0) bytes inner.1 =
    items_found (Within quote) (byte_at quote) (λ x mid h. (byte_found quote x).0 mid h)
    (λ x mid a h. (byte_found quote x).1 mid a h) (length bytes) bytes inner m.1 in
    let all : Key × List ℕ = (key_of_text inner.0, r.0) in
    let joined : Takes (Repeated (Within quote) inner.0 >> Mark (quote ∷ [])) bytes r.0 =
    takes_then (Repeated (Within quote) inner.0) (Mark (quote ∷ [])) bytes inner.1 r.0 items
    (behind_takes quote inner.1 r.0 r.1) in
    let one : QuotedRest quote (key_of_text inner.0) bytes r.0 = (inner.0, refl, joined) in
    subst (λ w. QuotedRest quote w.0 bytes w.1) (some_is all k r.2) one

int_found : (bytes : List ℕ) (k : Key × List ℕ) → int_at bytes ≡ Some k → Takes (Inner k.0) bytes k.1
unfolding int_at
int_found bytes k e =
    let run = run_at is_int_byte bytes in
    let n = bind_some (int_of_text run.0) _ k e in
    let all : Key × List ℕ = (Int n.0, run.1) in
    let one : Takes (Inner (Int n.0)) bytes run.1 = record {
      front = run.0;
      whole =
          (run_taken is_int_byte bytes).whole;
      is = inl (n.0, n.1, refl);
    } in
    subst (λ w. Takes (Inner w.0) bytes w.1) (some_is all k n.2) one

-- a first byte that is this one
first_is : (c : ℕ) (bytes : List ℕ) → begins (λ b. b == c) bytes ≡ true → bytes ≡ c ∷ drop 1 bytes
first_is c [] e = absurd cc
first_is c (b ∷ t) e = ap (λ d. d ∷ t) (eqb-true b c e)

text_key : (quote : ℕ) (bytes : List ℕ) (k : Key × List ℕ) → IsQuote quote → begins (λ b. b == quote) bytes ≡ true
    → quoted_at quote (drop 1 bytes) ≡ Some k → Takes (Inner k.0) bytes k.1
text_key quote bytes k is q e =
    let r = quoted_found quote (drop 1 bytes) k e in
    let mark : Takes (Mark (quote ∷ [])) bytes (drop 1 bytes) = record
    { front = quote ∷ []; whole = first_is quote bytes q; is = refl } in
    let t = takes_then (Mark (quote ∷ [])) (Repeated (Within quote) r.0 >> Mark (quote ∷ [])) bytes
    (drop 1 bytes) k.1 mark r.2 in
    record { front = t.front; whole = t.whole; is = inr (quote, r.0, is, t.is, r.1) }

key_cases : (bytes : List ℕ) (k : Key × List ℕ) (u v : Bool) → begins (λ b. b == 34) bytes ≡ u
    → begins (λ b. b == 39) bytes ≡ v
    → cond u (quoted_at 34 (drop 1 bytes)) (cond v (quoted_at 39 (drop 1 bytes)) (int_at bytes)) ≡ Some k
    → Takes (Inner k.0) bytes k.1
key_cases bytes k true v p q e = text_key 34 bytes k (inl refl) p e
key_cases bytes k false true p q e = text_key 39 bytes k (inr refl) q e
key_cases bytes k false false p q e = int_found bytes k e

key_found : (bytes : List ℕ) (k : Key × List ℕ) → key_at bytes ≡ Some k → Takes (Inner k.0) bytes k.1
unfolding key_at
key_found bytes k e = key_cases bytes k (begins (λ b. b == 34) bytes) (begins (λ b. b == 39) bytes) refl refl e

-- ---- indices

abbrev IndexIs : List ℕ → Option Key × List ℕ → Type 0
IndexIs bytes y = (y.0 ≡ None → bytes ≡ y.1) × ((a : Key) → y.0 ≡ Some a → Takes (Index a) bytes y.1)

index_found : (bytes : List ℕ) (y : Option Key × List ℕ) → index_at bytes ≡ Some y → IndexIs bytes y
unfolding index_at
index_found [] y e =
    let none : Option Key × List ℕ = (None, []) in
    let same : none ≡ y = some_is none y e in (
      (λ h. ap (λ (v : Option Key × List ℕ). v.1) same),
      (λ a h. let p : None ≡ y.0 = ap
          (λ (v : Option Key × List ℕ). v.0) same in absurd cc),
    )
index_found (b ∷ t) y e =
    let bytes : List ℕ = b ∷ t in
    let i = bind_some (behind 91 bytes) _ y e in
    let k = bind_some (key_at i.0) _ y i.2 in
    let key : Key × List ℕ = k.0 in
    let r = bind_some (behind 93 key.1) _ y k.2 in
    let all : Option Key × List ℕ = (Some key.0, r.0) in
    let tail : Takes (Inner key.0 >> Mark (93 ∷ [])) i.0 r.0 =
    takes_then (Inner key.0) (Mark (93 ∷ [])) i.0 key.1 r.0 (key_found i.0 key k.1) (behind_takes 93 key.1 r.0 r.1) in
    let one : Takes (Index key.0) bytes r.0 = takes_then (Mark (91 ∷ [])) (Inner key.0 >> Mark (93 ∷ [])) bytes i.0 r.0
    (behind_takes 91 bytes i.0 i.1) tail in
    let here : IndexIs bytes all = (
      (λ h. absurd cc),
      (λ a h. subst (λ x. Takes (Index x) bytes r.0)
          (some_is key.0 a h) one),
    ) in
    subst (λ w. IndexIs bytes w) (some_is all y r.2) here

keys_found : (bytes : List ℕ) (keys : List Key) → keys_at bytes ≡ Some keys → Repeated Index keys bytes
unfolding keys_at
keys_found bytes keys e =
    let m = bind_some (items_at index_at (length bytes) bytes) _ keys e in
    let found : List Key × List ℕ = m.0 in
    let g = guard_some (length found.1 == 0) (Some found.0) keys m.2 in
    let items : Takes (Repeated Index found.0) bytes found.1 =
    items_found Index index_at (λ x mid h. (index_found x (None, mid) h).0 refl)
    (λ x mid a h. (index_found x (Some a, mid) h).1 a refl) (length bytes) bytes found m.1 in
    let none : found.1 ≡ [] = nil_from_length found.1 (eqb-true (length found.1) 0 g.0) in
    let whole : items.front ≡ bytes = sym (items.whole ∙ ap (λ (t : List ℕ). items.front ++ t) none
    ∙ append-nil items.front) in
    subst (λ ks. Repeated Index ks bytes) (some_is found.0 keys g.1) (subst (Repeated Index found.0) whole items.is)

pub path_found : (bytes : List ℕ) (path : Path) → path_at bytes ≡ Some path → spelt bytes path
unfolding path_at
path_found bytes path e =
    let n = bind_some (name_at (without_dollar bytes)) _ path e in
    let name : List ℕ × List ℕ = n.0 in
    let k = bind_some (keys_at name.1) _ path n.2 in
    let all : Path = record { name = name.0; keys = k.0 } in
    subst (λ p. spelt bytes p) (some_is all path k.2)
    (takes_last Dollar (Name name.0 >> Repeated Index k.0) bytes (without_dollar bytes) (dollar_found bytes)
    (takes_last (Name name.0) (Repeated Index k.0) (without_dollar bytes) name.1
    (name_found (without_dollar bytes) name n.1) (keys_found name.1 k.0 k.1)))
