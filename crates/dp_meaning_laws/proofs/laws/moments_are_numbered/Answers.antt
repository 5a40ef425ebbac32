use Rattle.dp_meaning.proofs.Traces.{counted-at-end}
use Rattle.dp_meaning_laws.proofs.Whole.{bound-reached, numbered}
use Rattle.dp_meaning_laws.proofs.laws.moments_are_numbered.Goals as goal

pub returns : goal.returns
returns c = record {
  moment = λ bundle bound n writes p e. numbered bundle bound writes n p e;
  end = counted-at-end;
  reached = bound-reached;
}
