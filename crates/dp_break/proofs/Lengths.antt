-- Which breakpoints are listed, by their sizes.
use Rattle.std.proofs.Common.{◌≡◌, ℕ, suc, ◌+◌, ◌-◌, ◌^◌, ◌<◌, ◌≤◌, Bool, true, false, cond, List, [], ◌∷◌, ◌++◌, length, codes, map, take, refl, sym, ap, subst, ◌∙◌, arith, length-append}
use Rattle.std.specs.Prelude.{decimal, nat_le, take_while, Result, Ok, Err, IfOk}
use Rattle.std.specs.List.{prefix_len}
use Rattle.std.proofs.lemmas.Bool.{leb-true}
use Rattle.std.proofs.lemmas.Bool.Decides.{nat_tests}
use Rattle.std.proofs.lemmas.Fmt.{length-decimal-le}
use Rattle.dp_break.specs.StopRule.{Reached, each_from, reached}
use Rattle.dp_markup.specs.Texts.{attribute_text, node_text, nodes_text}
use Rattle.dp_packet.specs.Breakpoints.{breakpoint_node, resolved_attribute, state_name}
use Rattle.dp_packet.specs.declared.packet.Body.{Body}
use Rattle.dp_packet.specs.declared.packet.BreakLine.{BreakLine}
use Rattle.dp_packet.specs.declared.packet.Packet.{Packet}
use Rattle.dp_packet.specs.declared.packet.Packet.TheVariants as packet
use Rattle.dp_packet.specs.declared.packet.Response.{Response}
use Rattle.dp_packet.specs.Packets.{element_of}
use Rattle.dp_packet.specs.Parts.{Attributes, Text, namespace}
use Rattle.dp_packet.specs.Text.{text}
use Rattle.dp_packet.specs.inner.Sizes.{attributes_size}
use Rattle.dp_packet.specs.Sizes.{counted}
use Rattle.dp_packet.proofs.LengthLaws.{attributes_short, bare_response_short, weight}
use Rattle.dp_packet.proofs.SizeLaws.{attribute_length, packet_length, written_length}
use Rattle.dp_wire.specs.Frames.{packet_limit}
use Rattle.dp_break.specs.Commands.{bare_response, lines_fit, lines_response, listed, response, set_response}
use Rattle.dp_break.specs.inner.LineSizes.{fitting, line_size}

-- ---- sizes

pub resolved_short : (resolved : Bool) → weight (resolved_attribute resolved) ≤ 60
resolved_short true = omega arith
resolved_short false = omega arith

pub state_short : (enabled : Bool) → length (state_name enabled) ≤ 8
state_short true = omega arith
state_short false = omega arith

abbrev pub lines_size : List BreakLine → ℕ
lines_size lines = length (nodes_text (map breakpoint_node lines))

lines_more : (past : List BreakLine) (line : BreakLine)
    → lines_size (past ++ line ∷ []) ≡ lines_size past + line_size line
lines_more [] line = omega (arith, length-append (node_text (breakpoint_node line)) [])
lines_more (l ∷ past) line =
    omega (
      arith,
      length-append (node_text (breakpoint_node l)) (nodes_text (map breakpoint_node (past ++ line ∷ []))),
      length-append (node_text (breakpoint_node l)) (nodes_text (map breakpoint_node past)),
      lines_more past line,
    )

module _ (command id : Text) where
  abbrev pub size_with : List BreakLine → ℕ
  size_with lines = length (text (packet.Response (lines_response command id lines)))

  size_is : (lines : List BreakLine)
      → size_with lines ≡ 65 + attributes_size (namespace ∷ (codes "command", command) ∷ (codes "transaction_id", id)
      ∷ []) + lines_size lines
  size_is lines =
      let p : Packet = packet.Response (lines_response command id lines) in
      omega (arith, packet_length p, written_length (element_of p))

  pub bare_size : size_with [] ≡ 98 + length (attribute_text (codes "command", command)) + length
      (attribute_text (codes "transaction_id", id))
  bare_size =
      omega (
        arith,
        size_is [],
        attribute_length (codes "command") command,
        attribute_length (codes "transaction_id") id,
      )

  size_more : (past : List BreakLine) (line : BreakLine)
      → size_with (past ++ line ∷ []) ≡ size_with past + line_size line
  size_more past line = omega (arith, size_is (past ++ line ∷ []), size_is past, lines_more past line)

  -- ---- lists

  same_test : (size whole room limit : ℕ) → room + whole ≡ limit → nat_le (whole + size) limit ≡ nat_le size room
  same_test size whole room limit e = grind (arith, nat_tests)

  abbrev fits_behind : Reached BreakLine → Bool
  fits_behind r = lines_fit command id (r.past ++ r.here ∷ [])

  one_more : (k : ℕ) (l : BreakLine) (rs : List (Reached BreakLine)) (past : List BreakLine)
      → map (λ r. r.here) (take (1 + k) (reached past l ∷ rs)) ≡ l ∷ map (λ r. r.here) (take k rs)
  one_more k l rs past =
      ap (λ (m : ℕ). map (λ (r : Reached BreakLine). r.here) (take m (reached past l ∷ rs))) next where
        next : 1 + k ≡ suc k
        next = omega arith

  listed_from : (room : ℕ) (past lines : List BreakLine) → room + size_with past ≡ packet_limit
      → map (λ r. r.here) (take_while fits_behind (each_from past lines)) ≡ fitting room lines
  listed_from room past [] e = refl
  listed_from room past (l ∷ more) e =
      ap (λ (b : Bool). map (λ (r : Reached BreakLine). r.here)
      (take (cond b (1 + prefix_len fits_behind (each_from (past ++ l ∷ []) more)) 0)
      (reached past l ∷ each_from (past ++ l ∷ []) more)))
      (ap (λ (n : ℕ). nat_le n packet_limit) (size_more past l)
      ∙ same_test (line_size l) (size_with past) room packet_limit e)
      ∙ cases (nat_le (line_size l) room) refl (λ within. listed_from (room - line_size l) (past ++ l ∷ []) more
      (omega (arith, e, size_more past l, within))) where
        cases : (b : Bool) → nat_le (line_size l) room ≡ b
            → (line_size l ≤ room
            → map (λ r. r.here) (take_while fits_behind (each_from (past ++ l ∷ []) more)) ≡ fitting
            (room - line_size l) more)
            → map (λ r. r.here) (take (cond b (1 + prefix_len fits_behind (each_from (past ++ l ∷ []) more)) 0)
            (reached past l ∷ each_from (past ++ l ∷ []) more))
            ≡ cond b (l ∷ fitting (room - line_size l) more) []
        cases true is later =
            one_more (prefix_len fits_behind (each_from (past ++ l ∷ []) more)) l (each_from (past ++ l ∷ []) more) past
            ∙ ap (λ (ls : List BreakLine). l ∷ ls) (later (leb-true (line_size l) room is))
        cases false is later = refl

  pub listed_are : (room : ℕ) (lines : List BreakLine) → room + size_with [] ≡ packet_limit
      → listed command id lines ≡ fitting room lines
  listed_are room lines e = listed_from room [] lines e

  -- ---- what is listed fits

  fitting_small : (room : ℕ) (lines : List BreakLine) → lines_size (fitting room lines) ≤ room
  fitting_small room [] = omega arith
  fitting_small room (l ∷ more) = cases (nat_le (line_size l) room) refl (fitting_small (room - line_size l) more) where
    cases : (b : Bool) → nat_le (line_size l) room ≡ b
        → lines_size (fitting (room - line_size l) more) ≤ room - line_size l
        → lines_size (cond b (l ∷ fitting (room - line_size l) more) []) ≤ room
    cases true is later =
        omega (
          arith,
          leb-true (line_size l) room is,
          later,
          length-append (node_text (breakpoint_node l))
              (nodes_text (map breakpoint_node (fitting (room - line_size l) more))),
        )
    cases false is later = omega arith

  module _ (short_name : length command ≤ 64) (short_id : length id ≤ 64) where
    name_short : length (attribute_text (codes "command", command)) ≤ 395
    name_short =
        omega (
          arith,
          attributes_short ((codes "command", command) ∷ []),
          length-append (attribute_text (codes "command", command)) [],
        )

    id_short : length (attribute_text (codes "transaction_id", id)) ≤ 402
    id_short =
        omega (
          arith,
          attributes_short ((codes "transaction_id", id) ∷ []),
          length-append (attribute_text (codes "transaction_id", id)) [],
        )

    pub bare_short : size_with [] ≤ 895
    bare_short = omega (arith, bare_size, name_short, id_short)

    pub listed_short : (lines : List BreakLine) → size_with (listed command id lines) ≤ packet_limit
    listed_short lines =
        let room : ℕ = packet_limit - size_with [] in
        let e : room + size_with [] ≡ packet_limit = omega (arith, bare_short) in
        let same = ap size_with (listed_are room lines e) in
        omega (arith, same, size_is (fitting room lines), size_is [], fitting_small room lines, e)

    -- what is left for breakpoints, by the sizes of the name and the id
    pub record IsRoom (for_name for_id : ℕ) : Type 0 where
      pub name : for_name ≤ 395
      pub number : for_id ≤ 402
      pub room : packet_limit - (98 + for_name + for_id) + size_with [] ≡ packet_limit

    pub room_is : (name number : ℕ) → name ≡ counted (length (attribute_text (codes "command", command)))
        → number ≡ counted (length (attribute_text (codes "transaction_id", id)))
        → IsRoom name number
    room_is name number is_name is_number = record {
      name = omega (arith, is_name, name_short);
      number = omega (arith, is_number, id_short);
      room = omega (arith, is_name, is_number, name_short, id_short, bare_size);
    }

    pub bare_response_fits : length (text (packet.Response (bare_response command id))) ≤ packet_limit
    bare_response_fits = omega (arith, bare_response_short command id [])

    pub set_response_fits : (enabled : Bool) (number : ℕ) (resolved : Bool) → number < 2 ^ 32
        → length (text (packet.Response (set_response command id enabled number resolved))) ≤ packet_limit
    set_response_fits enabled number resolved small =
        let digits = length-decimal-le 10 number (omega arith) (omega (arith, small)) (omega (arith, small)) in
        omega (
          arith,
          bare_response_short command id ((codes "state", state_name enabled) ∷ (codes "id", decimal number)
              ∷ resolved_attribute resolved),
          resolved_short resolved,
          digits,
          state_short enabled,
        )

    -- one breakpoint that is short
    pub one_short : (line : BreakLine) → lines_size (line ∷ []) ≤ 40000 → size_with (line ∷ []) ≤ packet_limit
    one_short line short = omega (arith, size_is (line ∷ []), size_is [], bare_short, short)

-- ---- responses that were made

-- one that was made fits where the one that was asked for does
pub made_fits : {E : Type 0} (command id : Text) (what : Body) (attributes asked : Attributes)
    (made : Result Response E) → IfOk made (λ r. r ≡ response command id attributes what)
    → attributes ≡ asked → length (text (packet.Response (response command id asked what))) ≤ packet_limit
    → IfOk made (λ r. length (text (packet.Response r)) ≤ packet_limit)
made_fits command id what attributes asked (Ok r) is same fits =
    subst (λ (x : Response). length (text (packet.Response x)) ≤ packet_limit)
    (sym (is ∙ ap (λ (a : Attributes). response command id a what) same)) fits
made_fits command id what attributes asked (Err e) is same fits = tt

pub lines_made_fit : {E : Type 0} (command id : Text) (lines asked : List BreakLine) (made : Result Response E)
    → IfOk made (λ r. r ≡ lines_response command id lines)
    → lines ≡ asked → length (text (packet.Response (lines_response command id asked))) ≤ packet_limit
    → IfOk made (λ r. length (text (packet.Response r)) ≤ packet_limit)
lines_made_fit command id lines asked (Ok r) is same fits =
    subst (λ (x : Response). length (text (packet.Response x)) ≤ packet_limit)
    (sym (is ∙ ap (lines_response command id) same)) fits
lines_made_fit command id lines asked (Err e) is same fits = tt
