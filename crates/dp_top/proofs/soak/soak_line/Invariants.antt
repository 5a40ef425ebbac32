-- The ledger of the session's steps is the one that the blank stands for.
use Rattle.dp_top.proofs.soak.soak_line.Given as goal

abbrev pub ghosts-count : goal.ghosts-count
ghosts-count a = record { name = a.blank.name; parts = a.blank.parts }
