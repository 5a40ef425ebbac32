-- The ledger of the session's steps is the one that the blank stands for.
use Rattle.dp_top.proofs.listener.hear_over.Given as goal

abbrev pub ghosts-serve_heard : goal.ghosts-serve_heard
ghosts-serve_heard g a = record { name = a.blank.name; parts = a.blank.parts }
