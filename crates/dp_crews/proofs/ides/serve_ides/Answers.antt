use Rattle.dp_crews.specs.Gates.{gating}
use Rattle.dp_crews.specs.Workers.{ServedIde, post}
use Rattle.dp_crews.proofs.AskLaws.{asked_more}
use Rattle.dp_crews.proofs.StepLaws.{one_step}
use Rattle.dp_crews.proofs.ides.serve_ides.Goals as goal

pub ides-preserved : goal.ides-preserved
ides-preserved g c = (
  asked_more c.ides.counter c.args.clerk.now c.ides.clerk c.serve_ide.new.clerk c.ides.invariant.0
      c.in_ok-serve_ide.ensures.one,
  one_step ServedIde c.ides.counter (post c.args.clerk.now (gating g.G.Gate c.args.gate.now))
      (post c.ides.clerk (gating g.G.Gate c.ides.gate))
      (post c.serve_ide.new.clerk (gating g.G.Gate c.serve_ide.new.gate))
      c.ides.invariant.1 c.in_ok-serve_ide.ensures.served,
)
