-- What a write answers, by what it gives of a variable.
use Rattle.std.proofs.Common.{◌≡◌, Result, Ok, Err, refl}
use Rattle.dp_value.specs.declared.errors.WriteError.{WriteError}
use Rattle.dp_value.specs.Data.{Data}
use Rattle.dp_state.specs.declared.state.State.{State}
use Rattle.dp_state.specs.Places.{then_state}
use Rattle.dp_meaning.specs.inner.WriteAnswers.{write_answer}
use Rattle.dp_meaning.specs.Writes.{place_answer, place_or_fault}

pub write-answers : (r : Result Data WriteError) (f : Data → State)
    → write_answer r ≡ place_answer (place_or_fault (then_state r f))
write-answers (Ok d) f = refl
write-answers (Err e) f = refl
