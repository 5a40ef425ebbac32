use Rattle.std.proofs.Common.{◌≡◌, ◌++◌, drop}
use Rattle.std.specs.List.{flat_map}
use Rattle.dp_view.specs.Names.{index_of}
use Rattle.dp_view.proofs.names.put_indices.Given as goal

abbrev pub invariant-loop-key : goal.invariant-loop-key
invariant-loop-key l =
    l.fn.out.items ++ flat_map index_of l.keys ≡ l.out.items ++ flat_map index_of (drop l.key-index l.keys)
