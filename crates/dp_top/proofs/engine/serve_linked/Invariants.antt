-- The ledger of the session's steps is the one that the blank stands for.
use Rattle.dp_top.proofs.engine.serve_linked.Given as goal

abbrev pub ghosts-serve_program : goal.ghosts-serve_program
ghosts-serve_program g a = record { name = a.blank.name; parts = a.blank.parts }
