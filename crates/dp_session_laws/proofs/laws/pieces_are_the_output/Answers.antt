use Rattle.dp_session_laws.proofs.OutputPieces.{pieces_full, pieces_whole}
use Rattle.dp_session_laws.proofs.laws.pieces_are_the_output.Goals as goal

pub returns-clause-whole : goal.returns-clause-whole
returns-clause-whole c = λ output. pieces_whole output

pub returns-clause-full : goal.returns-clause-full
returns-clause-full c = λ output. pieces_full output
