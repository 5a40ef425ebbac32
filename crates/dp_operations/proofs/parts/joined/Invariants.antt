use Rattle.std.proofs.Common.{◌≡◌, ◌≤◌, ◌++◌, length, map, drop}
use Rattle.dp_value.specs.Table.{weight_limit}
use Rattle.dp_value.specs.Value.{data_of}
use Rattle.dp_operations.specs.Parts.{glued, join_by}
use Rattle.dp_operations.specs.Text.{text_of}
use Rattle.dp_operations.proofs.parts.joined.Given as goal

abbrev pub invariant-loop-value : goal.invariant-loop-value
invariant-loop-value l =
    (join_by l.glue (map text_of (map data_of l.values)) ≡ l.bytes.items
    ++ glued l.glue (map text_of (map data_of (drop l.value-index l.rest)))) × (length l.bytes.items ≤ weight_limit)
