-- No line of the gateway has a NUL, so that it can be sent; and those that are sent unseen are short.
use Rattle.std.proofs.Common.{◌≡◌, ℕ, Bool, true, false, cond, not, ◌&&◌, ◌||◌, ◌==◌, List, [], ◌∷◌, ◌++◌, Option, Some, None, refl, ap, ◌∙◌, codes, length, ◌≤◌, ◌<◌, ◌+◌, ◌*◌, ◌/◌, ◌%◌, ◌^◌, zero, suc, replicate, arith, decimal, lit≤}
use Rattle.std.specs.Prelude.{IfSome, slice_index}
use Rattle.std.specs.List.{flat_map}
use Rattle.std.proofs.lemmas.Bool.{and_from, and_parts}
use Rattle.std.proofs.lemmas.List.Folds.{list_all-append}
use Rattle.std.proofs.lemmas.Fmt.{length-decimal-le}
use Rattle.std.proofs.lemmas.List.{length-append}
use Rattle.base64.specs.Engines.{standard}
use Rattle.base64.specs.GeneralPurpose.{IsBytes}
use Rattle.base64.specs.Rfc4648.{encode_symbols, padding_len}
use Rattle.base64.proofs.Tables.{all_below_at}
use Rattle.dp_bytes.specs.Quotes.{in_quotes}
use Rattle.dp_wire.specs.Frames.{IsCommand, has_no_nul}
use Rattle.dp_command.specs.declared.names.CommandName.{CommandName}
use Rattle.dp_command.specs.declared.names.CommandName.TheVariants.{Status, FeatureGet, FeatureSet, Run, StepInto, StepOver, StepOut, Stop, Detach, BreakpointSet, BreakpointGet, BreakpointRemove, BreakpointUpdate, BreakpointList, StackDepth, StackGet, ContextNames, ContextGet, PropertyGet, PropertyValue, PropertySet, Source, Stdout, Stderr, Eval}
use Rattle.dp_command.specs.Canonical.{all_bare, needs_quotes, quoted, canonical, canonical_value, canonical_option, canonical_payload}
use Rattle.dp_command.specs.Names.{text_of}
use Rattle.dp_command.specs.Sorts.{is_bare}
use Rattle.dp_dap_messages.specs.Lines.{feature_line, hit_options, plain_line, remove_line}
use Rattle.dp_dap_messages.specs.inner.Lettered.{AreLettered}

joined : (a b : List ℕ) → has_no_nul a ≡ true → has_no_nul b ≡ true → has_no_nul (a ++ b) ≡ true
joined a b p q = list_all-append _ a b ∙ and_from _ _ p q

byte_of : (b : ℕ) (q s n : Bool) → (b == 0) ≡ n
    → has_no_nul (cond q (codes "\\\"") (cond s (codes "\\\\") (cond n (codes "\\0") (b ∷ [])))) ≡ true
byte_of b true s n e = refl
byte_of b false true n e = refl
byte_of b false false true e = refl
byte_of b false false false e = ap (λ z. not z && true) e

quoted_byte : (b : ℕ) → has_no_nul (in_quotes b) ≡ true
quoted_byte b = byte_of b (b == 34) (b == 92) (b == 0) refl

inner : (value : List ℕ) → has_no_nul (flat_map in_quotes value) ≡ true
inner [] = refl
inner (b ∷ t) = joined (in_quotes b) (flat_map in_quotes t) (quoted_byte b) (inner t)

bare_byte : (a b c : Bool) → (not a && not b && not c) ≡ true → not b ≡ true
bare_byte false false false e = refl
bare_byte true b c e = absurd cc
bare_byte false true c e = absurd cc
bare_byte false false true e = refl

bare : (value : List ℕ) → all_bare value ≡ true → has_no_nul value ≡ true
bare [] e = refl
bare (b ∷ t) e =
    let both = and_parts (is_bare b) (all_bare t) e in
    and_from _ _ (bare_byte (b == 32) (b == 0) (b == 34) both.0) (bare t both.1)

not_false : (b : Bool) → not b ≡ false → b ≡ true
not_false true e = refl
not_false false e = absurd cc

or_false : (a b : Bool) → (a || b) ≡ false → b ≡ false
or_false false b e = e
or_false true b e = absurd cc

value_of : (value : List ℕ) (u : Bool) → needs_quotes value ≡ u → has_no_nul (cond u (quoted value) value) ≡ true
value_of value true e = joined (flat_map in_quotes value) (34 ∷ []) (inner value) refl
value_of value false e =
    bare value (not_false (all_bare value) (or_false (length value == 0) (not (all_bare value)) e))

-- a value has none, whatever it is
pub no_nul_value : (value : List ℕ) → has_no_nul (canonical_value value) ≡ true
no_nul_value value = value_of value (needs_quotes value) refl

-- an option has none, where its letter is none
pub no_nul_option : (letter : ℕ) (value : List ℕ) → (letter == 0) ≡ false
    → has_no_nul (canonical_option (letter, value)) ≡ true
no_nul_option letter value e = and_from _ _ (ap not e) (no_nul_value value)

options_clean : (options : List (ℕ × List ℕ)) → AreLettered options
    → has_no_nul (flat_map canonical_option options) ≡ true
options_clean [] all = refl
options_clean (o ∷ os) all =
    joined (canonical_option o) (flat_map canonical_option os) (no_nul_option o.0 o.1 all.0) (options_clean os all.1)

-- ---- payloads

abbrev symbols : List ℕ
symbols = standard.encode_table

abbrev is_clean : ℕ → Bool
is_clean k = not (slice_index symbols k == 0)

symbol_clean : (k : ℕ) → k < 64 → not (slice_index symbols k == 0) ≡ true
symbol_clean k small = all_below_at is_clean 64 k refl small

symbols_clean : (m : List ℕ) → IsBytes m → has_no_nul (encode_symbols symbols m) ≡ true
unfolding encode_symbols
symbols_clean [] is = refl
symbols_clean (a ∷ []) is =
    let ka : a < 256 = is 0 in
    and_from _ _ (symbol_clean (a / 4) (omega arith))
    (and_from _ _ (symbol_clean (a % 4 * 16) (omega arith)) refl)
symbols_clean (a ∷ b ∷ []) is =
    let ka : a < 256 = is 0 in
    let kb : b < 256 = is 1 in
    and_from _ _ (symbol_clean (a / 4) (omega arith))
    (and_from _ _ (symbol_clean (a % 4 * 16 + b / 16) (omega arith))
    (and_from _ _ (symbol_clean (b % 16 * 4) (omega arith)) refl))
symbols_clean (a ∷ b ∷ c ∷ rest) is =
    let ka : a < 256 = is 0 in
    let kb : b < 256 = is 1 in
    let kc : c < 256 = is 2 in
    and_from _ _ (symbol_clean (a / 4) (omega arith))
    (and_from _ _ (symbol_clean (a % 4 * 16 + b / 16) (omega arith))
    (and_from _ _ (symbol_clean (b % 16 * 4 + c / 64) (omega arith))
    (and_from _ _ (symbol_clean (c % 64) (omega arith)) (symbols_clean rest (λ i. is (suc (suc (suc i))))))))

padding_clean : (n : ℕ) → has_no_nul (replicate n 61) ≡ true
padding_clean zero = refl
padding_clean (suc n) = padding_clean n

payload_clean : (payload : Option (List ℕ)) → IfSome payload IsBytes → has_no_nul (canonical_payload payload) ≡ true
payload_clean None are = refl
payload_clean (Some p) are =
    joined (encode_symbols symbols p) (replicate (padding_len (length p)) 61) (symbols_clean p are)
    (padding_clean (padding_len (length p)))

-- a line has none, where its name and its letters are none
pub no_nul_line : (name : List ℕ) (options : List (ℕ × List ℕ)) (payload : Option (List ℕ))
    → has_no_nul name ≡ true → AreLettered options → IfSome payload IsBytes
    → has_no_nul (canonical (record { name = name; options = options; payload = payload })) ≡ true
no_nul_line name options payload named lettered are =
    joined (name ++ flat_map canonical_option options) (canonical_payload payload)
    (joined name (flat_map canonical_option options) named (options_clean options lettered)) (payload_clean payload are)

-- ---- what is sent

-- no name of a command has one
pub named_clean : (name : CommandName) → has_no_nul (text_of name) ≡ true
named_clean Status = refl
named_clean FeatureGet = refl
named_clean FeatureSet = refl
named_clean Run = refl
named_clean StepInto = refl
named_clean StepOver = refl
named_clean StepOut = refl
named_clean Stop = refl
named_clean Detach = refl
named_clean BreakpointSet = refl
named_clean BreakpointGet = refl
named_clean BreakpointRemove = refl
named_clean BreakpointUpdate = refl
named_clean BreakpointList = refl
named_clean StackDepth = refl
named_clean StackGet = refl
named_clean ContextNames = refl
named_clean ContextGet = refl
named_clean PropertyGet = refl
named_clean PropertyValue = refl
named_clean PropertySet = refl
named_clean Source = refl
named_clean Stdout = refl
named_clean Stderr = refl
named_clean Eval = refl

pub lettered_set : (path : List ℕ) (line : ℕ) (hits : Option ℕ)
    → AreLettered ((105, codes "1") ∷ (116, codes "line") ∷ (102, path) ∷ (110, decimal line) ∷ hit_options hits)
lettered_set path line None = (refl, (refl, (refl, (refl, tt))))
lettered_set path line (Some hits) = (refl, (refl, (refl, (refl, (refl, (refl, tt))))))

-- ---- the lines that are sent unseen

pub plain_sent : (name : CommandName) → IsCommand (canonical (plain_line name))
plain_sent Status = record { no_nul = refl; fits = lit≤ tt }
plain_sent FeatureGet = record { no_nul = refl; fits = lit≤ tt }
plain_sent FeatureSet = record { no_nul = refl; fits = lit≤ tt }
plain_sent Run = record { no_nul = refl; fits = lit≤ tt }
plain_sent StepInto = record { no_nul = refl; fits = lit≤ tt }
plain_sent StepOver = record { no_nul = refl; fits = lit≤ tt }
plain_sent StepOut = record { no_nul = refl; fits = lit≤ tt }
plain_sent Stop = record { no_nul = refl; fits = lit≤ tt }
plain_sent Detach = record { no_nul = refl; fits = lit≤ tt }
plain_sent BreakpointSet = record { no_nul = refl; fits = lit≤ tt }
plain_sent BreakpointGet = record { no_nul = refl; fits = lit≤ tt }
plain_sent BreakpointRemove = record { no_nul = refl; fits = lit≤ tt }
plain_sent BreakpointUpdate = record { no_nul = refl; fits = lit≤ tt }
plain_sent BreakpointList = record { no_nul = refl; fits = lit≤ tt }
plain_sent StackDepth = record { no_nul = refl; fits = lit≤ tt }
plain_sent StackGet = record { no_nul = refl; fits = lit≤ tt }
plain_sent ContextNames = record { no_nul = refl; fits = lit≤ tt }
plain_sent ContextGet = record { no_nul = refl; fits = lit≤ tt }
plain_sent PropertyGet = record { no_nul = refl; fits = lit≤ tt }
plain_sent PropertyValue = record { no_nul = refl; fits = lit≤ tt }
plain_sent PropertySet = record { no_nul = refl; fits = lit≤ tt }
plain_sent Source = record { no_nul = refl; fits = lit≤ tt }
plain_sent Stdout = record { no_nul = refl; fits = lit≤ tt }
plain_sent Stderr = record { no_nul = refl; fits = lit≤ tt }
plain_sent Eval = record { no_nul = refl; fits = lit≤ tt }

in_short : (b : ℕ) (q s n : Bool)
    → length (cond q (codes "\\\"") (cond s (codes "\\\\") (cond n (codes "\\0") (b ∷ [])))) ≤ 2
in_short b true s n = lit≤ tt
in_short b false true n = lit≤ tt
in_short b false false true = lit≤ tt
in_short b false false false = lit≤ tt

inner_short : (value : List ℕ) → length (flat_map in_quotes value) ≤ 2 * length value
inner_short [] = omega arith
inner_short (b ∷ t) =
    omega (
      arith,
      length-append (in_quotes b) (flat_map in_quotes t),
      in_short b (b == 34) (b == 92) (b == 0),
      inner_short t,
    )

value_short : (value : List ℕ) (u : Bool) → length (cond u (quoted value) value) ≤ 2 * length value + 2
value_short value true = omega (arith, length-append (flat_map in_quotes value) (34 ∷ []), inner_short value)
value_short value false = omega arith

pub remove_sent : (id : ℕ) → id < 2 ^ 32 → IsCommand (canonical (remove_line id))
remove_sent id small = record {
  no_nul =
      no_nul_line (codes "breakpoint_remove") ((105, codes "1") ∷ (100, decimal id) ∷ []) None refl
      (refl, (refl, tt)) tt;
  fits =
      let value = canonical_value (decimal id) in
      omega (
        arith,
        value_short (decimal id) (needs_quotes (decimal id)),
        length-decimal-le 10 id (omega arith) (omega (arith, small)) (omega (arith, small)),
        length-append (value ++ []) [],
        length-append value [],
      );
}

pub children_sent : IsCommand (canonical (feature_line (codes "max_children")))
children_sent = record { no_nul = refl; fits = lit≤ tt }

pub data_sent : IsCommand (canonical (feature_line (codes "max_data")))
data_sent = record { no_nul = refl; fits = lit≤ tt }
