use Rattle.std.proofs.Common.{◌≡◌, ◌≤◌, ◌+◌, vec_len, vec_capacity}
use Rattle.dp_crews.specs.Gates.{gating}
use Rattle.dp_crews.specs.Twins.{Each, IsAtRest, IsTwinGate}
use Rattle.dp_crews.proofs.twins.twins_of.Given as goal

abbrev pub invariant-twins : goal.invariant-twins
invariant-twins g l =
    Each (λ twin. IsTwinGate (gating g.G.Gate l.fn.gate) (gating g.G.Gate twin)) l.gates.items
    × IsAtRest (gating g.G.Gate l.fn.gate) (gating g.G.Gate l.gate)
    × (vec_len l.gates + 1 ≡ l.counter)
    × (l.fn.workers ≤ vec_capacity l.gates)
