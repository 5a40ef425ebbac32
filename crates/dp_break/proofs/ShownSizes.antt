-- A breakpoint that is shown alone fits in a packet.
use Rattle.std.proofs.Common.{◌≡◌, ℕ, zero, suc, ◌+◌, ◌*◌, ◌^◌, ◌<◌, ◌≤◌, Bool, true, false, List, [], ◌∷◌, ◌++◌, length, codes, Option, Some, None, map, slice_get, arith}
use Rattle.std.specs.Prelude.{All, IfSome, decimal, nat_le, nat_lt, option_and_then, option_map}
use Rattle.std.specs.Option.{option_map_or}
use Rattle.std.proofs.lemmas.Bool.{leb-true, ltb-false}
use Rattle.std.proofs.lemmas.Fmt.{length-decimal-le}
use Rattle.std.proofs.lemmas.List.Elements.{All-head, All-tail}
use Rattle.dp_lexer.specs.Pieces.{longest_name}
use Rattle.dp_break.specs.declared.breakpoint.Breakpoint.{Breakpoint}
use Rattle.dp_break.specs.Tables.{IsSound}
use Rattle.dp_break.specs.Conditions.{expression_limit}
use Rattle.dp_break.proofs.Requests.{formed_short}
use Rattle.dp_markup.specs.declared.tree.Element.{Element}
use Rattle.dp_markup.specs.Texts.{nodes_text}
use Rattle.dp_packet.specs.Breakpoints.{breakpoint_node, expression_nodes, given_number, hit_attributes, kind_attributes, kind_name, place_attributes, resolved_attribute, rule_name}
use Rattle.dp_packet.specs.declared.packet.BreakKind.{BreakKind}
use Rattle.dp_packet.specs.declared.packet.BreakKind.TheVariants.{Line, Call, Return, Conditional}
use Rattle.dp_packet.specs.declared.packet.BreakLine.{BreakLine}
use Rattle.dp_packet.specs.declared.packet.HitRule.{HitRule}
use Rattle.dp_packet.specs.declared.packet.HitRule.TheVariants.{AtLeast, Exactly, Multiple}
use Rattle.dp_packet.specs.Parts.{Attributes, Text, element, flag, given, text_nodes}
use Rattle.dp_packet.specs.declared.packet.Packet.{Packet}
use Rattle.dp_packet.specs.declared.packet.Packet.TheVariants as packet
use Rattle.dp_packet.specs.Packets.{element_of}
use Rattle.dp_packet.specs.Text.{text}
use Rattle.dp_packet.specs.Uris.{file_uri}
use Rattle.dp_wire.specs.Frames.{packet_limit}
use Rattle.dp_packet.proofs.LengthLaws.{child_short, packet_short, text_short, uri_short, weight, written_short}
use Rattle.dp_tree.specs.declared.bundle.Bundle.{Bundle}
use Rattle.dp_tree.specs.declared.bundle.BundleFile.{BundleFile}
use Rattle.dp_tree.specs.FileNames.{AreFileNames, IsFileName}
use Rattle.dp_break.specs.inner.Numbers.{HasNumbers}
use Rattle.dp_break.specs.Shown.{breakpoint_line, uri_of}
use Rattle.dp_break.proofs.Lengths.{lines_size, resolved_short, state_short}

-- ---- attributes

weight-append : (a b : Attributes) → weight (a ++ b) ≡ weight a + weight b
weight-append [] b = omega arith
weight-append (x ∷ a) b = omega (arith, weight-append a b)

-- an attribute that may be missing
given_short : (name : Text) (value : Option Text) (most : ℕ) → IfSome value (λ v. length v ≤ most)
    → weight (given name value) ≤ 4 + length name + 6 * most
given_short name None most h = omega arith
given_short name (Some value) most h = omega (arith, h)

decimal_short : (n : ℕ) → n < 2 ^ 64 → length (decimal n) ≤ 20
decimal_short n small = length-decimal-le 20 n (omega arith) (omega (arith, small)) small

number_short : (name : Text) (number : Option ℕ) → IfSome number (λ n. n < 2 ^ 32)
    → weight (given_number name number) ≤ 124 + length name
number_short name None h = omega arith
number_short name (Some n) h = omega (arith, decimal_short n (omega (arith, h)))

kind_short : (kind : BreakKind) → length (kind_name kind) ≤ 11
kind_short Line = omega arith
kind_short Call = omega arith
kind_short Return = omega arith
kind_short Conditional = omega arith

rule_short : (rule : HitRule) → length (rule_name rule) ≤ 2
rule_short AtLeast = omega arith
rule_short Exactly = omega arith
rule_short Multiple = omega arith

flag_short : (value : Bool) → length (flag value) ≤ 1
flag_short true = omega arith
flag_short false = omega arith

expression_short : (expression : Option Text) → IfSome expression (λ e. length e ≤ 4096)
    → length (nodes_text (expression_nodes expression)) ≤ 25000
expression_short None h = omega arith
expression_short (Some e) h =
    let inner : Element = element (codes "expression") [] (text_nodes e) in
    omega (
      arith,
      h,
      child_short inner (25 + 6 * length e) (omega
          (arith, written_short inner (6 * length e) (text_short e))),
    )

-- ---- lines

-- what of a line may be long is short
pub record IsShort (shown : BreakLine) : Type 0 where
  pub id : shown.id < 2 ^ 32
  pub uri : IfSome shown.uri (λ uri. length uri ≤ 773)
  pub line : IfSome shown.line (λ n. n < 2 ^ 32)
  pub function : IfSome shown.function (λ name. length name ≤ longest_name)
  pub hits : shown.hits < 2 ^ 64
  pub hit_value : shown.hit_value < 2 ^ 32
  pub expression : IfSome shown.expression (λ e. length e ≤ 4096)

module _ (l : BreakLine) (s : IsShort l) where
  kinds_short : weight (kind_attributes l) ≤ 300
  kinds_short =
      omega (arith, decimal_short l.id (let h = s.id in omega (arith, h)), kind_short l.kind, state_short l.enabled)

  places_short : weight (place_attributes l) ≤ 7000
  places_short =
      omega (
        arith,
        weight-append (given (codes "filename") l.uri ++ given_number (codes "lineno") l.line)
            (given (codes "function") l.function),
        weight-append (given (codes "filename") l.uri)
            (given_number (codes "lineno") l.line),
        given_short (codes "filename") l.uri 773 s.uri,
        number_short (codes "lineno") l.line s.line,
        given_short (codes "function") l.function longest_name s.function,
      )

  hits_short : weight (hit_attributes l) ≤ 400
  hits_short =
      omega (
        arith,
        decimal_short l.hits s.hits,
        decimal_short l.hit_value (let h = s.hit_value in omega (arith, h)),
        rule_short l.hit_rule,
        flag_short l.temporary,
      )

  pub line_short : lines_size (l ∷ []) ≤ 40000
  line_short =
      let attributes : Attributes = kind_attributes l ++ place_attributes l ++ hit_attributes l
      ++ resolved_attribute l.resolved in
      let e : Element = element (codes "breakpoint") attributes (expression_nodes l.expression) in
      let whole = weight-append (kind_attributes l ++ place_attributes l ++ hit_attributes l)
      (resolved_attribute l.resolved) in
      let all = weight-append (kind_attributes l ++ place_attributes l) (hit_attributes l) in
      let front = weight-append (kind_attributes l) (place_attributes l) in
      child_short e 40000 (omega (
        arith,
        written_short e 25000 (expression_short l.expression s.expression),
        whole,
        resolved_short l.resolved,
        all,
        front,
        kinds_short,
        places_short,
        hits_short,
      ))

-- ---- breakpoints

name_short : (name : Option Text) → option_map_or (λ n. nat_le (length n) longest_name) name true ≡ true
    → IfSome name (λ n. length n ≤ longest_name)
name_short None e = tt
name_short (Some name) e = leb-true (length name) longest_name e

text_within : (expression : Option Text)
    → option_map_or (λ text. nat_lt expression_limit (length text)) expression false ≡ false
    → IfSome expression (λ e. length e ≤ 4096)
text_within None e = tt
text_within (Some text) e = ltb-false 4096 (length text) e

file_short : (files : List BundleFile) (number : ℕ) → All IsFileName (map (λ f. f.name) files)
    → IfSome (option_map (λ f. file_uri f.name) (slice_get files number)) (λ uri. length uri ≤ 773)
file_short [] number h = tt
file_short (f ∷ files) zero h =
    let short = (All-head IsFileName f.name (map (λ f. f.name) files) h).short in omega (arith, uri_short f.name, short)
file_short (f ∷ files) (suc k) h = file_short files k (All-tail IsFileName f.name (map (λ f. f.name) files) h)

uri_within : (bundle : Bundle) (file : Option ℕ) → AreFileNames (map (λ f. f.name) bundle.files)
    → IfSome (option_and_then (uri_of bundle) file) (λ uri. length uri ≤ 773)
uri_within bundle None names = tt
uri_within bundle (Some number) names = file_short bundle.files number names.named

pub shown_short : (bundle : Bundle) (b : Breakpoint) → AreFileNames (map (λ f. f.name) bundle.files) → IsSound b
    → HasNumbers b → lines_size (breakpoint_line bundle b ∷ []) ≤ 40000
shown_short bundle b names sound numbers = line_short (breakpoint_line bundle b) (record {
  id = numbers.id;
  uri = uri_within bundle b.file names;
  line = numbers.line;
  function = name_short b.function sound.named;
  hits = numbers.hits;
  hit_value = numbers.hit_value;
  expression = text_within b.expression (formed_short b.expression sound.formed);
})

-- news of one
pub notice_fits : (line : BreakLine) → lines_size (line ∷ []) ≤ 40000
    → length (text (packet.Notify (record { name = codes "breakpoint_resolved"; breakpoint = Some line })))
    ≤ packet_limit
notice_fits line short =
    let p : Packet = packet.Notify (record { name = codes "breakpoint_resolved"; breakpoint = Some line }) in
    let inside : length (nodes_text (breakpoint_node line ∷ [])) ≤ 40000 = short in
    let whole = packet_short p _ (written_short (element_of p) 40000 inside) in
    omega (arith, whole)
