-- The ledger of the session's steps is the one that the blank stands for.
use Rattle.dp_top.proofs.replay.replay_fetched.Given as goal

abbrev pub ghosts-replay_over : goal.ghosts-replay_over
ghosts-replay_over g a = record { name = a.blank.name; parts = a.blank.parts }
