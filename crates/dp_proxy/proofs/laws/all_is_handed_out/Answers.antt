use Rattle.dp_proxy.proofs.HandedLaws.{all_is_handed}
use Rattle.dp_proxy.proofs.laws.all_is_handed_out.Goals as goal

pub returns : goal.returns
returns c = all_is_handed
