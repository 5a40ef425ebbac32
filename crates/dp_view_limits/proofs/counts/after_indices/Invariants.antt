use Rattle.std.proofs.Common.{◌≡◌, ◌-◌, drop}
use Rattle.std.specs.Prelude.{flat_map}
use Rattle.dp_view.specs.Names.{index_of}
use Rattle.dp_view_limits.specs.inner.Sizes.{text_size}
use Rattle.dp_view_limits.proofs.counts.after_indices.Given as goal

abbrev pub invariant-loop-key : goal.invariant-loop-key
invariant-loop-key l =
    l.left - text_size (flat_map index_of l.keys) ≡ l.rest - text_size (flat_map index_of (drop l.key-index l.keys))
