use Rattle.dp_meaning_laws.proofs.Answers.{other-told, place-told, value-told}
use Rattle.dp_meaning_laws.proofs.laws.answers_tell_writes.Goals as goal

pub returns : goal.returns
returns c = record { place = place-told; value = value-told; other = other-told }
