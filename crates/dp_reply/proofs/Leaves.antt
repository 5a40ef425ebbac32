-- What is written of a number, a flag or bytes is read as it was.
use Rattle.std.proofs.Common.{◌≡◌, ℕ, zero, suc, ◌^◌, ◌<◌, ◌≤◌, Bool, true, false, ◌||◌, [], ◌∷◌, Some, nat_le, nat_lt, refl, ap, ◌∙◌, arith, codes, decimal}
use Rattle.std.proofs.lemmas.Bool.{and_parts, leb-true, ltb-true}
use Rattle.std.proofs.lemmas.Fmt.{digits_value-decimal}
use Rattle.std.specs.Result.{result_ok}
use Rattle.std.specs.Str.Parse.{digits_value}
use Rattle.base64.specs.Engines.{standard}
use Rattle.base64.specs.GeneralPurpose.{decoded_of, IsBytes}
use Rattle.base64.proofs.EngineFacts.{decode_of-encode_of}
use Rattle.std.specs.Str.{bytes_eq}
use Rattle.dp_packet.specs.declared.packet.BreakKind.{BreakKind}
use Rattle.dp_packet.specs.declared.packet.BreakKind.TheVariants as kind
use Rattle.dp_packet.specs.declared.packet.HitRule.{HitRule}
use Rattle.dp_packet.specs.declared.packet.HitRule.TheVariants as rule
use Rattle.dp_packet.specs.Parts.{Text, flag, base64}
use Rattle.dp_packet.specs.Breakpoints.{kind_name, rule_name, state_name}
use Rattle.dp_packet.proofs.Integers.{own, positive, or_true, zero_text}
use Rattle.dp_bytes.specs.Decimals.{is_decimal, decimal_in}
use Rattle.dp_reply.specs.Contents.{flag_in, bytes_in}
use Rattle.dp_reply.specs.Readings.{kind_in, state_in, rule_in}
use Rattle.dp_reply.specs.Norm.{are_bytes}

-- ---- numbers

decimal_decimal : (n : ℕ) → n < 2 ^ 64 → is_decimal (decimal n) ≡ true
decimal_decimal zero small = rw zero_text refl
decimal_decimal (suc n) small =
    ap (λ b. bytes_eq (decimal (suc n)) (codes "0") || b) (positive (suc n) (omega arith) small)
    ∙ or_true (bytes_eq (decimal (suc n)) (codes "0"))

pub number_again : (most n : ℕ) → nat_le n most ≡ true → n < 2 ^ 64 → decimal_in most (decimal n) ≡ Some n
unfolding decimal_in
number_again most n within small =
    let value : digits_value 10 (decimal n) ≡ n = digits_value-decimal own n small in
    rw (decimal_decimal n small, value, within) refl

-- a number of at most 64 bits
pub number_is : (most n : ℕ) → nat_le n most ≡ true → most < 2 ^ 64 → decimal_in most (decimal n) ≡ Some n
number_is most n within small = let less : n ≤ most = leb-true n most within in number_again most n within (omega arith)

-- ---- words

pub flag_is : (b : Bool) → flag_in (flag b) ≡ Some b
flag_is true = refl
flag_is false = refl

pub kind_is : (k : BreakKind) → kind_in (kind_name k) ≡ Some k
kind_is kind.Line = refl
kind_is kind.Call = refl
kind_is kind.Return = refl
kind_is kind.Conditional = refl

pub state_is : (b : Bool) → state_in (state_name b) ≡ Some b
state_is true = refl
state_is false = refl

pub rule_is : (r : HitRule) → rule_in (rule_name r) ≡ Some r
rule_is rule.AtLeast = refl
rule_is rule.Exactly = refl
rule_is rule.Multiple = refl

-- ---- bytes

small_bytes : (text : Text) → are_bytes text ≡ true → IsBytes text
small_bytes [] all i = omega arith
small_bytes (b ∷ text) all zero = ltb-true b 256 (and_parts (nat_lt b 256) (are_bytes text) all).0
small_bytes (b ∷ text) all (suc i) = small_bytes text (and_parts (nat_lt b 256) (are_bytes text) all).1 i

pub bytes_are : (bytes : Text) → are_bytes bytes ≡ true → bytes_in (base64 bytes) ≡ Some bytes
unfolding decoded_of
bytes_are bytes all = ap result_ok (decode_of-encode_of standard bytes refl (small_bytes bytes all))
