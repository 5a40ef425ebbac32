use Rattle.dp_meaning_laws.proofs.AmpleLaws.{same-body, same-evaluation, same-statement}
use Rattle.dp_meaning_laws.proofs.laws.more_turns_and_frames_change_no_part.Goals as goal

pub returns : goal.returns
returns c = record { statement = same-statement; statements = same-body; expression = same-evaluation }
