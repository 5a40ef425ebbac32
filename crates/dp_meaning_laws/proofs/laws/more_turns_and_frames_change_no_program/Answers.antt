use Rattle.dp_meaning_laws.proofs.AmpleLaws.{same-program}
use Rattle.dp_meaning_laws.proofs.laws.more_turns_and_frames_change_no_program.Goals as goal

pub returns : goal.returns
returns c = λ bundle bound turns frames others more writes few deep less low.
    same-program bundle bound writes turns frames others more few deep less low
