use Rattle.dp_records.proofs.VerdictLaws.{one_judgement}
use Rattle.dp_records.proofs.laws.one_verdict.Goals as goal

pub returns : goal.returns
returns c = λ behaviour bytes one other p q h k. one_judgement behaviour bytes one other p q h k
