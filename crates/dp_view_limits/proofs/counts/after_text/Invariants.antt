use Rattle.std.proofs.Common.{◌≡◌, ◌-◌, drop}
use Rattle.dp_view_limits.specs.inner.Sizes.{text_size}
use Rattle.dp_view_limits.proofs.counts.after_text.Given as goal

abbrev pub invariant-loop-b : goal.invariant-loop-b
invariant-loop-b l = l.left - text_size l.bytes ≡ l.rest - text_size (drop l.b-index l.bytes)
