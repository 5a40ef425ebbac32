-- What a write answers, in its parts.
use Rattle.std.specs.Prelude.{Option, Some, None, Result, Ok, Err}
use Rattle.dp_value.specs.declared.errors.WriteError.{WriteError}
use Rattle.dp_value.specs.declared.value.Value.{Value}
use Rattle.dp_value.specs.Data.{Data}
use Rattle.dp_meaning.specs.declared.writes.WriteAnswer.{WriteAnswer}
use Rattle.dp_meaning.specs.declared.writes.WriteAnswer.TheVariants as answer

-- by the value of an evaluation
abbrev pub answer_by : Option Value → WriteAnswer
answer_by None = answer.Fatal
answer_by (Some v) = answer.Value v

-- by what a write gives of a variable
abbrev pub write_answer : Result Data WriteError → WriteAnswer
write_answer (Ok d) = answer.Set
write_answer (Err e) = answer.NoPlace
