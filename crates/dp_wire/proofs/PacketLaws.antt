-- Bytes are split into packets and a rest in one way.
use Rattle.std.proofs.Common.{◌≡◌, ℕ, zero, suc, ◌+◌, ◌<◌, ◌≤◌, Bool, true, false, ◌&&◌, cond, eqb, leb, List, [], ◌∷◌, ◌++◌, length, take, drop, refl, sym, ap, ◌∙◌, subst, append_assoc, append-nil, arith, rules, decimal, length-append}
use Rattle.std.specs.List.{flat_map, AllByRecursion}
use Rattle.std.specs.Str.Parse.{digits_value}
use Rattle.std.proofs.lemmas.Bool.{and_parts, and_from, leb-true, le-leb, eqb-true, false≢true}
use Rattle.std.proofs.lemmas.Str.Parse.{IsNumeralModel, numerals_by_value}
use Rattle.std.proofs.lemmas.Fmt.{digits_decimal, decimal_is_IsNumeral, decimal_injective}
use Rattle.std.proofs.lemmas.List.{take_at, drop_at}
use Rattle.std.proofs.Math.Seq.{drop-append_seam}
use Rattle.dp_wire.specs.Frames.{has_no_nul, Splits, BeginsPacket, IsPacketText, packet_frame, packet_limit, up_to_nul, front_text, begins_with, is_packet_first, first_packets, packets_in, rest_of_packets}
use Rattle.dp_wire.proofs.FrameLaws.{same_text, no_nul-head, no_nul-tail}

-- ---- digits

abbrev pub IsDigit : ℕ → Type 0
IsDigit byte = (48 ≤ byte) × (byte ≤ 57)

abbrev pub Digits : List ℕ → Type 0
Digits [] = Unit {0}
Digits (byte ∷ bytes) = IsDigit byte × Digits bytes

pub numeral_model : IsNumeralModel Digits (digits_value 10)
numeral_model = numerals_by_value _ (search rules)

pub digits-decimal : (n : ℕ) → n ≤ packet_limit → Digits (decimal n)
digits-decimal n small = digits_decimal numeral_model n (omega arith)

pub value-decimal : (n : ℕ) → n ≤ packet_limit → digits_value 10 (decimal n) ≡ n
value-decimal n small = (decimal_is_IsNumeral n (omega arith)).1

digit_test : (b : ℕ) → IsDigit b → eqb b 0 ≡ false
digit_test b d = go (eqb b 0) refl where
  go : (t : Bool) → eqb b 0 ≡ t → t ≡ false
  go false e = refl
  go true e = absurd (omega (arith, eqb-true b 0 e))

pub digits-no_nul : (bs : List ℕ) → Digits bs → has_no_nul bs ≡ true
digits-no_nul [] d = refl
digits-no_nul (b ∷ bs) d = rw (digit_test b d.0, digits-no_nul bs d.1) refl

pub decimal-no_nul : (n : ℕ) → n ≤ packet_limit → has_no_nul (decimal n) ≡ true
decimal-no_nul n small = digits-no_nul (decimal n) (digits-decimal n small)

-- ---- frames

-- a frame and what follows it, its parts in their places
pub packed : (text more : List ℕ) → packet_frame text ++ more ≡ decimal (length text) ++ 0 ∷ (text ++ 0 ∷ more)
packed text more =
    append_assoc (decimal (length text) ++ 0 ∷ [] ++ text) (0 ∷ []) more
    ∙ append_assoc (decimal (length text) ++ 0 ∷ []) text (0 ∷ more)
    ∙ append_assoc (decimal (length text)) (0 ∷ []) (text ++ 0 ∷ more)

-- two texts of one length, each with a byte behind it
pub same_length : (a b : List ℕ) (c d : ℕ) (x y : List ℕ) → length a ≡ length b → a ++ c ∷ x ≡ b ++ d ∷ y
    → (a ≡ b) × (c ≡ d) × (x ≡ y)
same_length [] [] c d x y l e = (refl, cc, cc)
same_length [] (b ∷ bs) c d x y l e = absurd (omega arith)
same_length (a ∷ xs) [] c d x y l e = absurd (omega arith)
same_length (a ∷ xs) (b ∷ bs) c d x y l e =
    let head : a ≡ b = cc in
    let tail : xs ++ c ∷ x ≡ bs ++ d ∷ y = cc in
    let rest = same_length xs bs c d x y (omega arith) tail in
    (λ i. head i ∷ rest.0 i, rest.1, rest.2)

-- two lengths, each with a NUL behind it
pub same_number : (m n : ℕ) (x y : List ℕ) → m ≤ packet_limit → n ≤ packet_limit
    → decimal m ++ 0 ∷ x ≡ decimal n ++ 0 ∷ y → (m ≡ n) × (x ≡ y)
same_number m n x y p q e =
    let same = same_text (decimal m) (decimal n) x y (decimal-no_nul m p) (decimal-no_nul n q) e in
    (decimal_injective m n (omega arith) (omega arith) same.0, same.1)

pub same_packet : (a b x y : List ℕ) → IsPacketText a → IsPacketText b → packet_frame a ++ x ≡ packet_frame b ++ y
    → (a ≡ b) × (x ≡ y)
same_packet a b x y p q e =
    let numbers = same_number (length a) (length b) (a ++ 0 ∷ x) (b ++ 0 ∷ y) p.fits q.fits
    (sym (packed a x) ∙ e ∙ packed b y) in
    let texts = same_length a b 0 0 x y numbers.0 numbers.1 in
    (texts.0, texts.2)

pub no_packet_begins : (one other more : List ℕ) → IsPacketText one → IsPacketText other
    → packet_frame one ++ more ≡ packet_frame other → (one ≡ other) × (more ≡ [])
no_packet_begins one other more p q e = same_packet one other more [] p q (e ∙ sym (append-nil (packet_frame other)))

-- ---- one split

regroup : (text : List ℕ) (texts : List (List ℕ)) (rest : List ℕ)
    → flat_map packet_frame (text ∷ texts) ++ rest ≡ packet_frame text ++ (flat_map packet_frame texts ++ rest)
regroup text texts rest = append_assoc (packet_frame text) (flat_map packet_frame texts) rest

abbrev NoMore : List ℕ → Type 0
NoMore rest = (text more : List ℕ) → IsPacketText text → rest ≡ packet_frame text ++ more → ⊥

same_split : (texts others : List (List ℕ)) (rest remains : List ℕ) → AllByRecursion IsPacketText texts
    → AllByRecursion IsPacketText others → NoMore rest → NoMore remains
    → flat_map packet_frame texts ++ rest ≡ flat_map packet_frame others ++ remains
    → (texts ≡ others) × (rest ≡ remains)
same_split [] [] rest remains p q r s e = (refl, e)
same_split [] (other ∷ others) rest remains p q r s e =
    absurd (r other (flat_map packet_frame others ++ remains) q.0 (e ∙ regroup other others remains))
same_split (text ∷ texts) [] rest remains p q r s e =
    absurd (s text (flat_map packet_frame texts ++ rest) p.0 (sym e ∙ regroup text texts rest))
same_split (text ∷ texts) (other ∷ others) rest remains p q r s e =
    let first = same_packet text other _ _ p.0 q.0 (sym (regroup text texts rest) ∙ e ∙ regroup other others remains) in
    let others_too = same_split texts others rest remains p.1 q.1 r s first.1 in
    (λ i. first.0 i ∷ others_too.0 i, others_too.1)

pub one_packet_split : (bytes : List ℕ) (texts others : List (List ℕ)) (rest remains : List ℕ)
    → Splits IsPacketText packet_frame bytes texts rest → Splits IsPacketText packet_frame bytes others remains
    → (texts ≡ others) × (rest ≡ remains)
one_packet_split bytes texts others rest remains p q =
    same_split texts others rest remains p.each q.each p.no_more q.no_more (sym p.whole ∙ q.whole)

-- ---- the first packet

begins-append : (front rest : List ℕ) → begins_with (front ++ rest) front ≡ true
begins-append [] rest = go rest where
  go : (rest : List ℕ) → begins_with rest [] ≡ true
  go [] = refl
  go (b ∷ bs) = refl
begins-append (b ∷ bs) rest = and_from (eqb b b) _ (search rules) (begins-append bs rest)

begins-true : (bytes front : List ℕ) → begins_with bytes front ≡ true → bytes ≡ front ++ drop (length front) bytes
begins-true [] [] h = refl
begins-true (b ∷ bs) [] h = refl
begins-true [] (f ∷ fs) h = cc
begins-true (b ∷ bs) (f ∷ fs) h =
    let parts = and_parts (eqb b f) (begins_with bs fs) h in
    λ i. eqb-true b f parts.0 i ∷ begins-true bs fs parts.1 i

up_to-nul : (front more : List ℕ) → has_no_nul front ≡ true → up_to_nul (front ++ 0 ∷ more) ≡ front
up_to-nul [] more h = refl
up_to-nul (b ∷ bs) more h = rw (no_nul-head b bs h, up_to-nul bs more (no_nul-tail b bs h)) refl

front_text-packet : (text more : List ℕ) → IsPacketText text → front_text (packet_frame text ++ more) ≡ text
front_text-packet text more is =
    let digits = decimal (length text) in
    let up : up_to_nul (digits ++ 0 ∷ (text ++ 0 ∷ more)) ≡ digits = up_to-nul digits (text ++ 0 ∷ more)
    (decimal-no_nul (length text) is.fits) in
    let behind : drop (length digits + 1) (digits ++ 0 ∷ (text ++ 0 ∷ more)) ≡ text ++ 0 ∷ more =
    ap (drop (length digits + 1)) (sym (append_assoc digits (0 ∷ []) (text ++ 0 ∷ more)))
    ∙ drop_at (digits ++ 0 ∷ []) (text ++ 0 ∷ more) (length digits + 1)
    (omega (arith, length-append digits (0 ∷ []))) in
    ap front_text (packed text more)
    ∙ ap (λ (d : List ℕ). take (digits_value 10 d) (drop (length d + 1) (digits ++ 0 ∷ (text ++ 0 ∷ more)))) up
    ∙ ap (take (digits_value 10 digits)) behind
    ∙ take_at text (0 ∷ more) (digits_value 10 digits) (sym (value-decimal (length text) is.fits))

-- what the test says, both ways
first_packet-true : (bytes : List ℕ) → is_packet_first bytes ≡ true
    → BeginsPacket bytes (front_text bytes) (drop (length (packet_frame (front_text bytes))) bytes)
first_packet-true bytes h =
    let text = front_text bytes in
    let both = and_parts (leb 1 (length text) && leb (length text) packet_limit)
    (begins_with bytes (packet_frame text)) h in
    let limits = and_parts (leb 1 (length text)) (leb (length text) packet_limit) both.0 in
    record {
      is_text =
          record { some_byte = leb-true 1 (length text) limits.0; fits = leb-true (length text) packet_limit limits.1 };
      whole = begins-true bytes (packet_frame text) both.1;
    }

first_packet-here : (text more : List ℕ) → IsPacketText text → is_packet_first (packet_frame text ++ more) ≡ true
first_packet-here text more is =
    subst (λ (t : List ℕ). (leb 1 (length t) && leb (length t) packet_limit
    && begins_with (packet_frame text ++ more) (packet_frame t)) ≡ true)
    (sym (front_text-packet text more is))
    (and_from _ _ (and_from _ _ (le-leb 1 (length text) is.some_byte) (le-leb (length text) packet_limit is.fits))
    (begins-append (packet_frame text) more))

first_packet-none : (bytes : List ℕ) → NoMore bytes → is_packet_first bytes ≡ false
first_packet-none bytes none = go (is_packet_first bytes) refl where
  go : (t : Bool) → is_packet_first bytes ≡ t → t ≡ false
  go false e = refl
  go true e =
      let begins = first_packet-true bytes e in
      absurd (none _ _ begins.is_text begins.whole)

-- ---- packets_in

first_packets-none : (count : ℕ) (bytes : List ℕ) → NoMore bytes → first_packets count bytes ≡ []
first_packets-none zero bytes none = refl
first_packets-none (suc count) bytes none =
    ap (λ t. cond t (front_text bytes ∷ first_packets count (drop (length (packet_frame (front_text bytes))) bytes)) [])
    (first_packet-none bytes none)

pub packets-none : (bytes : List ℕ) → NoMore bytes → packets_in bytes ≡ []
packets-none bytes none = first_packets-none (length bytes) bytes none

first_packets-packet : (count : ℕ) (text more : List ℕ) → IsPacketText text
    → first_packets (suc count) (packet_frame text ++ more) ≡ text ∷ first_packets count more
first_packets-packet count text more is =
    ap (λ t. cond t (front_text (packet_frame text ++ more)
    ∷ first_packets count (drop (length (packet_frame (front_text (packet_frame text ++ more))))
    (packet_frame text ++ more))) []) (first_packet-here text more is)
    ∙ ap (λ (t : List ℕ). t ∷ first_packets count (drop (length (packet_frame t)) (packet_frame text ++ more)))
    (front_text-packet text more is)
    ∙ ap (λ l. text ∷ first_packets count l) (drop-append_seam (packet_frame text) more)

-- the frames of a split are what is found, where the count suffices
first_packets-split : (count : ℕ) (texts : List (List ℕ)) (rest : List ℕ) → AllByRecursion IsPacketText texts
    → NoMore rest → length texts ≤ count
    → first_packets count (flat_map packet_frame texts ++ rest) ≡ texts
first_packets-split count [] rest each none enough = first_packets-none count rest none
first_packets-split zero (text ∷ texts) rest each none enough = absurd (omega arith)
first_packets-split (suc count) (text ∷ texts) rest each none enough =
    ap (first_packets (suc count)) (regroup text texts rest)
    ∙ first_packets-packet count text (flat_map packet_frame texts ++ rest) each.0
    ∙ ap (λ l. text ∷ l) (first_packets-split count texts rest each.1 none (omega arith))

-- each frame has a byte at least
pub frame_length : (text : List ℕ) → length (packet_frame text) ≡ length (decimal (length text)) + length text + 2
frame_length text =
    ap length (sym (append-nil (packet_frame text)) ∙ packed text [])
    ∙ length-append (decimal (length text)) (0 ∷ (text ++ 0 ∷ [])) ∙ omega (arith, length-append text (0 ∷ []))

texts_within : (texts : List (List ℕ)) (rest : List ℕ) → length texts ≤ length (flat_map packet_frame texts ++ rest)
texts_within [] rest = omega arith
texts_within (text ∷ texts) rest =
    omega (
      arith,
      texts_within texts rest,
      frame_length text,
      ap length (regroup text texts rest),
      length-append (packet_frame text) (flat_map packet_frame texts ++ rest),
    )

pub packets-split : (texts : List (List ℕ)) (rest : List ℕ) → AllByRecursion IsPacketText texts → NoMore rest
    → packets_in (flat_map packet_frame texts ++ rest) ≡ texts
packets-split texts rest each none =
    first_packets-split (length (flat_map packet_frame texts ++ rest)) texts rest each none (texts_within texts rest)

-- ---- each list of bytes has a split

abbrev Split : List ℕ → Type 0
Split bytes = (texts : List (List ℕ)) × (rest : List ℕ) × Splits IsPacketText packet_frame bytes texts rest

split_step : (bytes : List ℕ) → ((shorter : List ℕ) → length shorter < length bytes → Split shorter) → (t : Bool)
    → is_packet_first bytes ≡ t → Split bytes
split_step bytes below false e = (
  [],
  bytes,
  record {
    whole = refl;
    each = tt;
    no_more = λ text more is same. false≢true (sym e ∙ ap is_packet_first same ∙ first_packet-here text more is);
  },
)
split_step bytes below true e =
    let text = front_text bytes in
    let behind = drop (length (packet_frame text)) bytes in
    let begins = first_packet-true bytes e in
    let shorter : length behind < length bytes = omega (
      arith,
      ap length begins.whole,
      length-append (packet_frame text) behind,
      frame_length text,
    ) in
    let left = below behind shorter in (
      text ∷ left.0,
      left.1,
      record {
        whole = begins.whole ∙ ap (λ l. packet_frame text ++ l) left.2.whole ∙ sym (regroup text left.0 left.1);
        each = (begins.is_text, left.2.each);
        no_more = left.2.no_more;
      },
    )

split_within : (count : ℕ) (bytes : List ℕ) → length bytes < count → Split bytes
split_within zero bytes fits = absurd (omega arith)
split_within (suc count) bytes fits =
    split_step bytes (λ shorter less. split_within count shorter (omega arith)) (is_packet_first bytes) refl

pub packets_split : (bytes : List ℕ) → Splits IsPacketText packet_frame bytes (packets_in bytes) (rest_of_packets bytes)
packets_split bytes =
    let split = split_within (length bytes + 1) bytes (omega arith) in
    let texts : packets_in bytes ≡ split.0 = ap packets_in split.2.whole
    ∙ packets-split split.0 split.1 split.2.each split.2.no_more in
    let rest : rest_of_packets bytes ≡ split.1 =
    ap (λ (l : List (List ℕ)). drop (length (flat_map packet_frame l)) bytes) texts
    ∙ ap (drop (length (flat_map packet_frame split.0))) split.2.whole
    ∙ drop-append_seam (flat_map packet_frame split.0) split.1 in
    subst (λ (l : List (List ℕ)). Splits IsPacketText packet_frame bytes l (rest_of_packets bytes)) (sym texts)
    (subst (λ (r : List ℕ). Splits IsPacketText packet_frame bytes split.0 r) (sym rest) split.2)

-- the first packet stays the first, whatever comes after
pub packets-first : (text more : List ℕ) → IsPacketText text
    → packets_in (packet_frame text ++ more) ≡ text ∷ packets_in more
packets-first text more is =
    let split = packets_split more in
    ap (λ l. packets_in (packet_frame text ++ l)) split.whole
    ∙ ap packets_in (sym (regroup text (packets_in more) (rest_of_packets more)))
    ∙ packets-split (text ∷ packets_in more) (rest_of_packets more) (is, split.each) split.no_more
