use Rattle.dp_engine.proofs.PassedMoments.{comes_to_stop}
use Rattle.dp_session_laws.proofs.PassingAnswers.{passing_answers}
use Rattle.dp_session_laws.proofs.laws.passing_is_answering.Goals as goal

pub returns-clause-comes : goal.returns-clause-comes
returns-clause-comes c = λ state line mode asked. comes_to_stop state line mode asked

pub returns-clause-answers : goal.returns-clause-answers
returns-clause-answers c = λ state bytes mode k asked stops. passing_answers state bytes mode k asked stops
