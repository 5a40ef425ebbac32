use Rattle.dp_meaning_laws.proofs.CodedMoments.{places-coded}
use Rattle.dp_meaning_laws.proofs.Whole.{has-files}
use Rattle.dp_meaning_laws.proofs.laws.places_have_code.Goals as goal

pub returns : goal.returns
returns c =
    λ bundle bound n writes p e is. places-coded bundle bound n writes p e is (has-files bundle bound writes n p e)
