-- A breakpoint as packets show it: DBGp 1.0, "breakpoint_get".
use Rattle.std.specs.Prelude.{ℕ, Bool, ◌||◌, is_some, List, Option, option_and_then, option_map, slice_get}
use Rattle.dp_break.specs.declared.breakpoint.Breakpoint.{Breakpoint}
use Rattle.dp_tree.specs.declared.bundle.Bundle.{Bundle}
use Rattle.dp_packet.specs.Uris.{file_uri}
use Rattle.dp_packet.specs.declared.packet.BreakLine.{BreakLine}

-- the URI of the file of this number, if there is one
abbrev pub uri_of : Bundle → ℕ → Option (List ℕ)
uri_of bundle file = option_map (λ f. file_uri f.name) (slice_get bundle.files file)

-- a breakpoint with the URI of its file for the number, and without the tree of its expression
abbrev pub breakpoint_line : Bundle → Breakpoint → BreakLine
breakpoint_line bundle b = record {
  id = b.id;
  kind = b.kind;
  enabled = b.enabled;
  uri = option_and_then (uri_of bundle) b.file;
  line = b.line;
  function = b.function;
  hits = b.hits;
  hit_value = b.hit_value;
  hit_rule = b.hit_rule;
  temporary = b.temporary;
  resolved = b.resolved;
  expression = b.expression;
}

-- a text of it is shown
abbrev pub has_text : Breakpoint → Bool
has_text b = is_some b.file || is_some b.function || is_some b.expression
