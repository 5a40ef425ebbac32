-- The kit's percent-encoding writes the URIs of files, byte by byte.
use Rattle.std.proofs.Common.{◌≡◌, ℕ, zero, suc, ◌<◌, Bool, true, false, ◌&&◌, cond, eqb, List, [], ◌∷◌, ◌++◌, All, refl}
use Rattle.std.specs.List.{flat_map}
use Rattle.std.specs.Str.{bytes_eq}
use Rattle.std.proofs.lemmas.Bool.Decides.{Decides-below_and}
use Rattle.std.proofs.lemmas.List.Elements.{All-head, All-tail}
use Rattle.std.proofs.lemmas.Slice.Eq.{bytes_eq-Decides}
use Rattle.percent_encoding.specs.AsciiSet.{should_percent_encode}
use Rattle.percent_encoding.specs.Percent.{encode_byte, percent_encode, percent_encode_byte}
use Rattle.dp_packet.specs.declared.uris.TheConstants.{ESCAPED}
use Rattle.dp_packet.specs.Uris.{encoded}
use Rattle.dp_bytes.specs.Names.{without_slash}

-- each byte, by computing
abbrev alike : ℕ → Bool
alike b = bytes_eq (encode_byte ESCAPED b) (encoded b)

abbrev alike_below : ℕ → Bool
alike_below zero = true
alike_below (suc n) = alike n && alike_below n

all_alike : alike_below 256 ≡ true
unfolding should_percent_encode percent_encode_byte
all_alike = refl

same_byte : (b : ℕ) → b < 256 → encode_byte ESCAPED b ≡ encoded b
same_byte =
    (Decides-below_and alike (λ b. encode_byte ESCAPED b ≡ encoded b) alike_below (λ b. bytes_eq-Decides _ _) refl
    (λ _. refl) 256).0 all_alike

abbrev pub IsByte : ℕ → Type 0
IsByte b = b < 256

pub same_bytes : (bytes : List ℕ) → All IsByte bytes → percent_encode ESCAPED bytes ≡ flat_map encoded bytes
unfolding percent_encode
same_bytes [] small = refl
same_bytes (b ∷ bytes) small =
    (λ i. same_byte b (All-head IsByte b bytes small) i ++ same_bytes bytes (All-tail IsByte b bytes small) i)

pub small_rest : (name : List ℕ) → All IsByte name → All IsByte (without_slash name)
small_rest [] small = small
small_rest (b ∷ name) small = go (eqb b 47) where
  go : (t : Bool) → All IsByte (cond t name (b ∷ name))
  go true = All-tail IsByte b name small
  go false = small
