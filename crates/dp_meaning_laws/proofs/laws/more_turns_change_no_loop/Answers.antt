use Rattle.dp_meaning_laws.proofs.AmpleLaws.{same-do, same-turns}
use Rattle.dp_meaning_laws.proofs.laws.more_turns_change_no_loop.Goals as goal

pub returns : goal.returns
returns c = record {
  turns = λ bundle bound limit frames n m line tests after body s can enough more most.
      same-turns bundle bound limit frames limit frames s can enough enough n m more most line body tests after;
  do_turns = λ bundle bound limit frames n m line test body s can enough more most.
      same-do bundle bound limit frames limit frames s can enough enough n m more most line body test;
}
