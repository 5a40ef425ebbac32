-- What base64 decodes to is bytes, and a text decodes to bytes exactly where it is their encoding.
use Rattle.std.proofs.Common.{◌≡◌, ℕ, zero, suc, ◌+◌, ◌-◌, ◌*◌, ◌<◌, Bool, true, List, [], ◌∷◌, ◌++◌, length, take, drop, slice_index, Option, Some, None, Result, Ok, Err, refl, ap, subst, arith, inl, inr, ◌⊎◌}
use Rattle.std.proofs.lemmas.List.{length-drop, get_or-drop}
use Rattle.std.specs.Result.{result_ok}
use Rattle.base64.specs.declared.decode.DecodeError.{DecodeError}
use Rattle.base64.specs.declared.engine.general_purpose.GeneralPurpose.{GeneralPurpose}
use Rattle.base64.specs.declared.engine.DecodePaddingMode.{DecodePaddingMode}
use Rattle.base64.specs.Tables.{is_inverse}
use Rattle.base64.specs.Decode.{IsDecodeTable, or_else, symbol_error, group_error, group_bytes, groups_error, groups_bytes, decode_group, groups_before_last, lone_error, no_leftover, scan_last, suffix_error, suffix_bytes, decode_outcome}
use Rattle.base64.specs.Engines.{standard}
use Rattle.base64.specs.GeneralPurpose.{IsBytes, encode_of, decode_of, decoded_of}
use Rattle.base64.proofs.Canonical.{IsScanned-scan}
use Rattle.base64.proofs.EngineFacts.{decode_of-encode_of, decode_of_strict}
use Rattle.base64.proofs.Tables.{IsDecodeTable_from, are_tables_inverse}

-- ---- lists of bytes

no_bytes : IsBytes []
no_bytes i = omega arith

append_bytes : (a b : List ℕ) → IsBytes a → IsBytes b → IsBytes (a ++ b)
append_bytes [] b p q i = q i
append_bytes (x ∷ a) b p q zero = p 0
append_bytes (x ∷ a) b p q (suc i) = append_bytes a b (λ k. p (suc k)) q i

take_bytes : (n : ℕ) (a : List ℕ) → IsBytes a → IsBytes (take n a)
take_bytes zero a p i = no_bytes i
take_bytes (suc n) [] p i = no_bytes i
take_bytes (suc n) (x ∷ a) p zero = p 0
take_bytes (suc n) (x ∷ a) p (suc i) = take_bytes n a (λ k. p (suc k)) i

pub front_is : (a b : List ℕ) → IsBytes (a ++ b) → IsBytes a
front_is [] b p i = no_bytes i
front_is (x ∷ a) b p zero = p 0
front_is (x ∷ a) b p (suc i) = front_is a b (λ k. p (suc k)) i

pub back_is : (a b : List ℕ) → IsBytes (a ++ b) → IsBytes b
back_is [] b p = p
back_is (x ∷ a) b p = back_is a b (λ k. p (suc k))

-- ---- what groups decode to

nothing_first : (x y : Option DecodeError) → or_else x y ≡ None → (x ≡ None) × (y ≡ None)
nothing_first None y h = (refl, h)
nothing_first (Some e) y h = cc h

group_is : (a b c d : ℕ) → a < 64 → b < 64 → c < 64 → d < 64 → IsBytes (decode_group a b c d)
group_is a b c d p q r s zero = omega arith
group_is a b c d p q r s (suc zero) = omega arith
group_is a b c d p q r s (suc (suc zero)) = omega arith
group_is a b c d p q r s (suc (suc (suc i))) = omega arith

symbol_is : (dec s : List ℕ) (i : ℕ) → IsDecodeTable dec → IsBytes s → symbol_error dec s i ≡ None
    → slice_index dec (slice_index s i) < 64
symbol_is dec s i table bytes e = elim (table (slice_index s i) (bytes i)) [
  | inl bad ↦ cc (rw bad at e)
  | inr good ↦ good
]

one_group : (dec s : List ℕ) (i : ℕ) → IsDecodeTable dec → IsBytes s → group_error dec s i ≡ None
    → IsBytes (group_bytes dec s i)
one_group dec s i table bytes e =
    let p = nothing_first (symbol_error dec s i) _ e in
    let q = nothing_first (symbol_error dec s (i + 1)) _ p.1 in
    let r = nothing_first (symbol_error dec s (i + 2)) (symbol_error dec s (i + 3)) q.1 in
    group_is _ _ _ _ (symbol_is dec s i table bytes p.0) (symbol_is dec s (i + 1) table bytes q.0)
    (symbol_is dec s (i + 2) table bytes r.0) (symbol_is dec s (i + 3) table bytes r.1)

all_groups : (dec s : List ℕ) (q : ℕ) → IsDecodeTable dec → IsBytes s → groups_error dec s q ≡ None
    → IsBytes (groups_bytes dec s q)
unfolding groups_error groups_bytes
all_groups dec s zero table bytes e = no_bytes
all_groups dec s (suc q) table bytes e =
    let p = nothing_first (groups_error dec s q) (group_error dec s (4 * q)) e in
    append_bytes (groups_bytes dec s q) (group_bytes dec s (4 * q)) (all_groups dec s q table bytes p.0)
    (one_group dec s (4 * q) table bytes p.1)

-- ---- the last group

zeros : (k : ℕ) → slice_index (0 ∷ 0 ∷ 0 ∷ 0 ∷ []) k < 64
zeros zero = omega arith
zeros (suc zero) = omega arith
zeros (suc (suc zero)) = omega arith
zeros (suc (suc (suc zero))) = omega arith
zeros (suc (suc (suc (suc k)))) = omega arith

result_cases : {T E : Type 0} (r : Result T E) → ((x : T) × (r ≡ Ok x)) ⊎ ((e : E) × (r ≡ Err e))
result_cases (Ok x) = inl (x, refl)
result_cases (Err e) = inr (e, refl)

last_is : (enc dec s : List ℕ) (pad : ℕ) (allow : Bool) (mode : DecodePaddingMode) → is_inverse enc dec ≡ true
    → IsBytes s
    → suffix_error dec pad allow mode (4 * groups_before_last (length s)) s ≡ None
    → IsBytes (suffix_bytes dec pad (4 * groups_before_last (length s)) s)
last_is enc dec s pad allow mode inverse bytes none =
    let at : ℕ = 4 * groups_before_last (length s) in
    let rest : List ℕ = drop at s in
    let len : length rest ≡ length s - at = length-drop at s in
    let rest_bytes : (k : ℕ) → slice_index rest k < 256 = λ k. rw (get_or-drop at s k 0) (bytes (at + k)) in
    elim (result_cases (scan_last dec pad at s)) [
      | inl ok ↦
          let held = IsScanned-scan enc dec rest pad at rest no_leftover ok.0 0 inverse rest_bytes (omega arith)
          (omega arith) refl (
            (refl, refl, λ j lt. absurd (omega arith), λ j low lt. absurd (omega arith)),
            (omega arith, omega arith, omega arith, zeros),
          ) ok.1 in
          let small = held.1.3 in
          rw ok.1 (take_bytes _ _ (group_is _ _ _ _ (small 0) (small 1) (small 2) (small 3)))
      | inr bad ↦ cc (rw bad.1 at none)
    ]

-- ---- the whole

outcome_is : (x : Option DecodeError) (d b : List ℕ) → decode_outcome x d ≡ Ok b → (x ≡ None) × (d ≡ b)
outcome_is None d b h = (refl, cc h)
outcome_is (Some e) d b h = cc h

decoded_small : (e : GeneralPurpose) (s b : List ℕ) → IsBytes s → decode_of e s ≡ Ok b → IsBytes b
decoded_small e s b bytes ok =
    let dec : List ℕ = e.decode_table in
    let pad : ℕ = e.padding.value in
    let inverse = are_tables_inverse e.encode_table dec pad e.tables in
    let parts = outcome_is _ _ b ok in
    let p = nothing_first (lone_error dec pad s) _ parts.0 in
    let q = nothing_first (groups_error dec s (groups_before_last (length s))) _ p.1 in
    let groups = all_groups dec s (groups_before_last (length s))
    (IsDecodeTable_from e.encode_table dec inverse) bytes q.0 in
    let last = last_is e.encode_table dec s pad e.config.decode_allow_trailing_bits e.config.decode_padding_mode inverse
    bytes q.1 in
    subst IsBytes parts.1 (append_bytes _ _ groups last)

some_ok : {T E : Type 0} (r : Result T E) (x : T) → result_ok r ≡ Some x → r ≡ Ok x
some_ok (Ok y) x e = cc e
some_ok (Err y) x e = cc e

pub decoded_is : (text payload : List ℕ) → IsBytes text → decoded_of standard text ≡ Some payload
    → IsBytes payload × (text ≡ encode_of standard payload)
unfolding decoded_of
decoded_is text payload bytes e =
    let ok = some_ok (decode_of standard text) payload e in
    (decoded_small standard text payload bytes ok, decode_of_strict standard text payload (refl, refl) bytes ok)

pub encoded_is : (payload : List ℕ) → IsBytes payload → decoded_of standard (encode_of standard payload) ≡ Some payload
unfolding decoded_of
encoded_is payload bytes = ap result_ok (decode_of-encode_of standard payload refl bytes)
