use Rattle.dp_crews.specs.Gates.{Steps, gating}
use Rattle.dp_crews.specs.Workers.{AskedFor, ServedIde, post}
use Rattle.dp_crews.proofs.ides.serve_ides.Given as goal

abbrev pub invariant-ides : goal.invariant-ides
invariant-ides g l =
    AskedFor l.counter l.fn.clerk l.clerk
    × Steps ServedIde l.counter (post l.fn.clerk (gating g.G.Gate l.fn.gate)) (post l.clerk (gating g.G.Gate l.gate))
