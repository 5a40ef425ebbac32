use Rattle.dp_meaning_laws.proofs.Whole.{arrived-can, end-can, now-can}
use Rattle.dp_meaning_laws.proofs.laws.states_are_of_their_bundle.Goals as goal

pub returns : goal.returns
returns c = record {
  arrived = λ bundle bound n writes p e. arrived-can bundle bound writes n p e;
  now = λ bundle bound n writes s some e. now-can bundle bound writes some n s e;
  end = end-can;
}
