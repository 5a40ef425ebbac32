-- Bytes in hexadecimal are read as they are spelled, and are spelled as they are read.
use Rattle.std.proofs.Common.{◌≡◌, ℕ, ◌+◌, ◌-◌, ◌*◌, ◌/◌, ◌%◌, ◌<◌, ◌≤◌, ◌==◌, Bool, true, false, ◌&&◌, List, [], ◌∷◌, ◌++◌}
use Rattle.std.proofs.Common.{Option, Some, None, nat_le, nat_lt, option_map, codes, refl, sym, ap, ◌∙◌, append_assoc, arith}
use Rattle.std.proofs.lemmas.Bool.{and_right}
use Rattle.std.proofs.lemmas.Bool.Decides.{nat_tests}
use Rattle.std.proofs.lemmas.Option.{same_Some}
use Rattle.std.proofs.lemmas.Slice.Eq.{bytes_eq-Decides}
use Rattle.std.specs.List.{flat_map, AllByRecursion}
use Rattle.std.specs.Str.{bytes_eq}
use Rattle.dp_events.specs.Lists.{digit, hex}
use Rattle.dp_events.specs.inner.Spelling.{nibble, byte_in, pairs, some_pairs, bytes_in}

abbrev two : ℕ → List ℕ
two b = digit (b / 16) ∷ digit (b % 16) ∷ []

-- ---- read as it is spelled

nibble_digit : (n : ℕ) → n < 16 → nibble (digit n) ≡ Some n
nibble_digit n small = grind (arith, nat_tests)

byte_again : (b : ℕ) → b < 256 → byte_in (digit (b / 16)) (digit (b % 16)) ≡ Some b
byte_again b small =
    let high : b / 16 < 16 = omega arith in
    let low : b % 16 < 16 = omega arith in
    let whole : 16 * (b / 16) + b % 16 ≡ b = omega arith in
    rw (nibble_digit (b / 16) high, nibble_digit (b % 16) low) (ap Some whole)

pairs_again : (bytes : List ℕ) → AllByRecursion (λ b. b < 256) bytes → pairs (flat_map two bytes) ≡ Some bytes
pairs_again [] all = refl
pairs_again (b ∷ bytes) all = rw (byte_again b all.0, pairs_again bytes all.1) refl

pub hex_again : (bytes : List ℕ) → AllByRecursion (λ b. b < 256) bytes → bytes_in (hex bytes) ≡ Some bytes
hex_again [] all = refl
hex_again (b ∷ bytes) all = rw (and_right (digit (b / 16) == 45) false refl) (pairs_again (b ∷ bytes) all)

-- ---- spelled as it is read

record IsNibble (c n : ℕ) : Type 0 where
  digit : c ≡ digit n
  small : n < 16

nibble_is : (c n : ℕ) → nibble c ≡ Some n → IsNibble c n
nibble_is c n e = by (nat_le 48 c && nat_le c 57) (nat_le 97 c && nat_le c 102) refl refl e where
  by : (t u : Bool) → (nat_le 48 c && nat_le c 57) ≡ t → (nat_le 97 c && nat_le c 102) ≡ u → nibble c ≡ Some n
      → IsNibble c n
  by true u p q e =
      let is : c - 48 ≡ n = same_Some (c - 48) n (rw p at e) in
      let within : (48 ≤ c) × (c ≤ 57) = grind (arith, nat_tests) in
      let less : nat_lt n 10 ≡ true = grind (arith, nat_tests) in
      record { digit = rw less (omega arith); small = omega arith }
  by false true p q e =
      let is : c - 87 ≡ n = same_Some (c - 87) n (rw (p, q) at e) in
      let within : (97 ≤ c) × (c ≤ 102) = grind (arith, nat_tests) in
      let more : nat_lt n 10 ≡ false = grind (arith, nat_tests) in
      record { digit = rw more (omega arith); small = omega arith }
  by false false p q e = let no : None ≡ Some n = rw (p, q) at e in absurd cc

record IsByte (high low byte : ℕ) : Type 0 where
  first : high ≡ digit (byte / 16)
  second : low ≡ digit (byte % 16)
  small : byte < 256

byte_is : (high low byte : ℕ) → byte_in high low ≡ Some byte → IsByte high low byte
byte_is high low byte e = by (nibble high) (nibble low) refl refl e where
  by : (a b : Option ℕ) → nibble high ≡ a → nibble low ≡ b → byte_in high low ≡ Some byte → IsByte high low byte
  by None b p q e = let no : None ≡ Some byte = rw p at e in absurd cc
  by (Some a) None p q e = let no : None ≡ Some byte = rw (p, q) at e in absurd cc
  by (Some a) (Some b) p q e =
      let whole : 16 * a + b ≡ byte = same_Some (16 * a + b) byte (rw (p, q) at e) in
      let h = nibble_is high a p in
      let l = nibble_is low b q in
      let above : a ≡ byte / 16 = let s = h.small in let t = l.small in omega arith in
      let below : b ≡ byte % 16 = let s = h.small in let t = l.small in omega arith in
      record {
        first = h.digit ∙ ap digit above;
        second = l.digit ∙ ap digit below;
        small = let s = h.small in let t = l.small in omega arith;
      }

pub record AreSpelled (part bytes : List ℕ) : Type 0 where
  pub spelled : part ≡ flat_map two bytes
  pub small : AllByRecursion (λ b. b < 256) bytes

one_more : (high low byte : ℕ) (part bytes : List ℕ) → IsByte high low byte → AreSpelled part bytes
    → AreSpelled (high ∷ low ∷ part) (byte ∷ bytes)
one_more high low byte part bytes one rest = record {
  spelled = λ i. one.first i ∷ one.second i ∷ rest.spelled i;
  small = (one.small, rest.small);
}

pairs_are : (part bytes : List ℕ) → pairs part ≡ Some bytes → AreSpelled part bytes
pairs_are [] bytes e =
    let none : [] ≡ bytes = same_Some [] bytes e in rw (← none) (record { spelled = refl; small = tt })
pairs_are (high ∷ []) bytes e = absurd cc
pairs_are (high ∷ low ∷ part) bytes e =
    by (λ more q. pairs_are part more q) (byte_in high low) (pairs part) refl refl e where
      by : ((more : List ℕ) → pairs part ≡ Some more → AreSpelled part more) → (one : Option ℕ) (rest : Option (List ℕ))
          → byte_in high low ≡ one → pairs part ≡ rest
          → pairs (high ∷ low ∷ part) ≡ Some bytes → AreSpelled (high ∷ low ∷ part) bytes
      by left None rest p q e = let no : None ≡ Some bytes = rw p at e in absurd cc
      by left (Some byte) None p q e = let no : None ≡ Some bytes = rw (p, q) at e in absurd cc
      by left (Some byte) (Some more) p q e =
          let whole : byte ∷ more ≡ bytes = same_Some (byte ∷ more) bytes (rw (p, q) at e) in
          rw (← whole) (one_more high low byte part more (byte_is high low byte p) (left more q))

pub record IsHex (part bytes : List ℕ) : Type 0 where
  pub spelled : part ≡ hex bytes
  pub small : AllByRecursion (λ b. b < 256) bytes

some_is : (part bytes : List ℕ) → some_pairs part ≡ Some bytes → IsHex part bytes
some_is [] bytes e = absurd cc
some_is (high ∷ part) bytes e = by bytes (pairs_are (high ∷ part) bytes e) where
  by : (bytes : List ℕ) → AreSpelled (high ∷ part) bytes → IsHex (high ∷ part) bytes
  by [] are = let no : high ∷ part ≡ [] = are.spelled in absurd cc
  by (b ∷ bytes) are = record { spelled = are.spelled; small = are.small }

pub hex_is : (part bytes : List ℕ) → bytes_in part ≡ Some bytes → IsHex part bytes
hex_is part bytes e = by (bytes_eq part (codes "-")) refl e where
  by : (t : Bool) → bytes_eq part (codes "-") ≡ t → bytes_in part ≡ Some bytes → IsHex part bytes
  by true p e =
      let none : [] ≡ bytes = same_Some [] bytes (rw p at e) in
      let same : part ≡ codes "-" = (bytes_eq-Decides part (codes "-")).0 p in
      rw (← none) (record { spelled = same; small = tt })
  by false p e = some_is part bytes (rw p at e)

-- ---- pair after pair

module _ (part bytes rest : List ℕ) (so_far : pairs part ≡ option_map (λ bs. bytes ++ bs) (pairs rest)) where
  pub pairs_more : (high low byte : ℕ) (more : List ℕ) → rest ≡ high ∷ low ∷ more → byte_in high low ≡ Some byte
      → pairs part ≡ option_map (λ bs. (bytes ++ byte ∷ []) ++ bs) (pairs more)
  pairs_more high low byte more e b =
      so_far ∙ ap (λ r. option_map (λ bs. bytes ++ bs) (pairs r)) e ∙ by (pairs more) refl where
        by : (o : Option (List ℕ)) → pairs more ≡ o
            → option_map (λ bs. bytes ++ bs) (pairs (high ∷ low ∷ more)) ≡ option_map (λ bs. (bytes ++ byte ∷ []) ++ bs)
            (pairs more)
        by None p = rw (b, p) refl
        by (Some left) p = rw (b, p) (ap Some (sym (append_assoc bytes (byte ∷ []) left)))
