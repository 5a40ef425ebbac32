-- The ledger of the steps is the one that the blank stands for.
use Rattle.dp_program.proofs.ends.run_program.Given as goal

abbrev pub ghosts-run_to_end : goal.ghosts-run_to_end
ghosts-run_to_end g a = record { name = a.blank.name; parts = a.blank.parts }
