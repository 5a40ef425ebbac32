-- How long the base64 of bytes is as a text: no symbol is escaped.
use Rattle.std.proofs.Common.{◌≡◌, ℕ, zero, suc, ◌+◌, ◌*◌, ◌/◌, ◌%◌, ◌==◌, ◌<◌, Bool, List, [], ◌∷◌, ◌++◌, length, replicate, slice_index, refl, arith, length-append}
use Rattle.std.proofs.lemmas.Bool.{eqb-true}
use Rattle.base64.specs.Engines.{standard}
use Rattle.base64.specs.GeneralPurpose.{IsBytes}
use Rattle.base64.specs.Rfc4648.{encode_symbols, padding_len}
use Rattle.base64.proofs.RoundTrip.{length-encode_symbols}
use Rattle.base64.proofs.Tables.{all_below_at}
use Rattle.dp_markup.specs.Escapes.{escaped, escaped_all}
use Rattle.dp_packet.specs.Parts.{base64}

abbrev symbols : List ℕ
symbols = standard.encode_table

-- each of the 64 symbols is written as itself
abbrev is_plain : ℕ → Bool
is_plain k = length (escaped (slice_index symbols k)) == 1

plain : (k : ℕ) → k < 64 → length (escaped (slice_index symbols k)) ≡ 1
plain k small = eqb-true _ 1 (all_below_at is_plain 64 k refl small)

escaped_more : (b : ℕ) (bytes : List ℕ) → length (escaped b) ≡ 1
    → length (escaped_all (b ∷ bytes)) ≡ 1 + length (escaped_all bytes)
escaped_more b bytes e = omega (arith, e, length-append (escaped b) (escaped_all bytes))

symbols_length : (m : List ℕ) → IsBytes m → (after : List ℕ)
    → length (escaped_all (encode_symbols symbols m ++ after)) ≡ length (encode_symbols symbols m) + length
    (escaped_all after)
unfolding encode_symbols
symbols_length [] is after = omega arith
symbols_length (a ∷ []) is after =
    let ka : a < 256 = is 0 in
    omega (
      arith,
      escaped_more (slice_index symbols (a / 4)) (slice_index symbols (a % 4 * 16) ∷ after)
          (plain (a / 4) (omega arith)),
      escaped_more (slice_index symbols (a % 4 * 16)) after
          (plain (a % 4 * 16) (omega arith)),
    )
symbols_length (a ∷ b ∷ []) is after =
    let ka : a < 256 = is 0 in
    let kb : b < 256 = is 1 in
    omega (
      arith,
      escaped_more (slice_index symbols (a / 4)) (slice_index symbols (a % 4 * 16 + b / 16)
          ∷ slice_index symbols (b % 16 * 4) ∷ after) (plain (a / 4) (omega arith)),
      escaped_more (slice_index symbols (a % 4 * 16 + b / 16)) (slice_index symbols (b % 16 * 4) ∷ after)
          (plain (a % 4 * 16 + b / 16) (omega arith)),
      escaped_more (slice_index symbols (b % 16 * 4)) after (plain (b % 16 * 4) (omega arith)),
    )
symbols_length (a ∷ b ∷ c ∷ rest) is after =
    let ka : a < 256 = is 0 in
    let kb : b < 256 = is 1 in
    let kc : c < 256 = is 2 in
    let more : List ℕ = encode_symbols symbols rest ++ after in
    omega (
      arith,
      escaped_more (slice_index symbols (a / 4)) (slice_index symbols (a % 4 * 16 + b / 16)
          ∷ slice_index symbols (b % 16 * 4 + c / 64) ∷ slice_index symbols (c % 64) ∷ more)
          (plain (a / 4) (omega arith)),
      escaped_more (slice_index symbols (a % 4 * 16 + b / 16))
          (slice_index symbols (b % 16 * 4 + c / 64) ∷ slice_index symbols (c % 64) ∷ more)
          (plain (a % 4 * 16 + b / 16) (omega arith)),
      escaped_more (slice_index symbols (b % 16 * 4 + c / 64)) (slice_index symbols (c % 64) ∷ more)
          (plain (b % 16 * 4 + c / 64) (omega arith)),
      escaped_more (slice_index symbols (c % 64)) more (plain (c % 64) (omega arith)),
      symbols_length rest (λ i. is (suc (suc (suc i)))) after,
    )

padding_length : (n : ℕ) → length (escaped_all (replicate n 61)) ≡ n
padding_length zero = refl
padding_length (suc n) = omega (arith, padding_length n)

pub base64_length : (bytes : List ℕ) → IsBytes bytes → length (escaped_all (base64 bytes)) ≡ (length bytes + 2) / 3 * 4
base64_length bytes is =
    omega (
      arith,
      symbols_length bytes is (replicate (padding_len (length bytes)) 61),
      padding_length (padding_len (length bytes)),
      length-encode_symbols symbols bytes,
    )
