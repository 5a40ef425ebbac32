use Rattle.dp_command.proofs.LineLaws.{line_again, line_found}
use Rattle.dp_command.proofs.laws.line_of_is_spelt.Goals as goal

pub returns : goal.returns
returns c = λ bytes line all. (line_found bytes line all, line_again bytes line)
