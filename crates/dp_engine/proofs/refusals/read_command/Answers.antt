use Rattle.std.proofs.Common.{ap, sym, ◌∙◌}
use Rattle.dp_engine.specs.States.{allows}
use Rattle.dp_engine.proofs.TurnLaws.{reads_command}
use Rattle.dp_engine.proofs.refusals.read_command.Goals as goal

pub returns : goal.returns
returns c = λ state is.
    let name = c.in-Ok.name in
    let allowed = ap (λ p. allows p name) is ∙ sym c.allows.ensures ∙ c.if-not-allows.false in
    reads_command state c.args.line.now name c.read.result c.in-Ok.ensures.admitted c.in-Ok.ensures.named allowed
    c.read.ensures.refused c.read.ensures.accepted
