-- The ledger of the session's steps is the one that the blank stands for.
use Rattle.dp_audit.proofs.tapes.tape.Given as goal

abbrev pub ghosts-tape_with : goal.ghosts-tape_with
ghosts-tape_with g a = record { name = a.blank.name; parts = a.blank.parts }
