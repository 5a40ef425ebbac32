use Rattle.std.proofs.Common.{refl}
use Rattle.dp_headline.proofs.laws.served_alone.Goals as goal

pub returns-clause-sent : goal.returns-clause-sent
returns-clause-sent c = λ bundle bound key bytes. refl

pub returns-clause-own : goal.returns-clause-own
returns-clause-own c = λ bundle bound bytes. refl

pub returns-clause-ending : goal.returns-clause-ending
returns-clause-ending c = λ bundle bound bytes. refl
