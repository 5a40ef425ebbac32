-- The engines of a program: those of dp_engine, each in a session of its own. What one of them
-- sends, served alone, is `alone` of dp_engine, what goes to its own output is `own` there, and how
-- its program ends is `ending`.
use Rattle.std.specs.Prelude.{ℕ}
use Rattle.dp_tree.specs.declared.bundle.Bundle.{Bundle}
use Rattle.dp_engine.specs.declared.session.SessionEnd.{SessionEnd}
use Rattle.dp_engine.specs.Answers.{answer}
use Rattle.dp_engine.specs.Responses.{init_text}
use Rattle.dp_engine.specs.Served as served
use Rattle.dp_engine.specs.Session.{State, opening}
use Rattle.dp_world.specs.Alone.{Engines}

abbrev pub engines_of : Bundle → ℕ → Engines State SessionEnd
engines_of bundle bound = record {
  init = λ key. init_text bundle key;
  opening = opening bundle bound;
  step = answer;
  rest_after = served.rest_after;
  ending_after = served.ending_after;
}
