use Rattle.std.proofs.Common.{◌≡◌, ◌-◌, drop}
use Rattle.std.specs.Prelude.{flat_map}
use Rattle.dp_bytes.specs.Quotes.{in_quotes}
use Rattle.dp_view_limits.specs.inner.Sizes.{text_size}
use Rattle.dp_view_limits.proofs.counts.after_quoted.Given as goal

abbrev pub invariant-loop-b : goal.invariant-loop-b
invariant-loop-b l =
    l.left - text_size (flat_map in_quotes l.bytes) ≡ l.rest - text_size (flat_map in_quotes (drop l.b-index l.bytes))
