use Rattle.dp_memory_links.specs.Fakes.{AreFreshCalls}
use Rattle.dp_crews_tests.proofs.tests.gate_of.Given as goal

abbrev pub invariant-loop-text : goal.invariant-loop-text
invariant-loop-text l = AreFreshCalls l.parts.items
