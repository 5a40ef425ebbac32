-- The ledger of the machine's steps is the one that the blank stands for.
use Rattle.dp_rows_heard.proofs.sessions.differences_of.Given as goal

abbrev pub ghosts-differences_over : goal.ghosts-differences_over
ghosts-differences_over a = record { name = a.blank.name; parts = a.blank.parts }
