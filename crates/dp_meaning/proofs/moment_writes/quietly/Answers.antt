use Rattle.std.proofs.lemmas.Result.{IfOk-weaker}
use Rattle.dp_meaning.proofs.Alone.{comes-to}
use Rattle.dp_meaning.proofs.moment_writes.quietly.Goals as goal

pub returns : goal.returns
returns c =
    IfOk-weaker c.held.result _ _ (λ answer h. comes-to _ _ answer _ c.expression.ensures.meets h) c.held.ensures
