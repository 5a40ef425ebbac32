use Rattle.dp_break.proofs.Truths.{truth-value}
use Rattle.dp_break.proofs.laws.true_by_value.Goals as goal

pub returns : goal.returns
returns c = λ bundle e state value is. truth-value bundle e state value is
