use Rattle.std.proofs.Common.{◌≡◌, ◌++◌, drop, map}
use Rattle.dp_value.specs.Value.{data_of}
use Rattle.dp_actions.proofs.entry_reads.lent.Given as goal

abbrev pub invariant-loop-value : goal.invariant-loop-value
invariant-loop-value l =
    map (λ a. data_of a.now) l.lent.items ++ map data_of (drop l.value-index l.values) ≡ map data_of l.values
