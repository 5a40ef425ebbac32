use Rattle.std.proofs.Common.{◌≡◌, ◌++◌, option_map, length}
use Rattle.dp_events.specs.inner.Spelling as spec
use Rattle.dp_events.proofs.hex.pairs.Given as goal

abbrev pub invariant-pairs : goal.invariant-pairs
invariant-pairs l = spec.pairs l.part ≡ option_map (λ bs. l.bytes.items ++ bs) (spec.pairs l.rest)

abbrev pub decreases-pairs : goal.decreases-pairs
decreases-pairs l = length l.rest
