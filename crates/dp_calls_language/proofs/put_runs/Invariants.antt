-- The ledger of the machine's steps is the one that the blank stands for.
use Rattle.dp_calls_language.proofs.put_runs.Given as goal

abbrev pub ghosts-dp_step : goal.ghosts-dp_step
ghosts-dp_step a = record { name = a.blank.name; parts = a.blank.parts }
