-- The ledger of the session's steps is the one that the blank stands for.
use Rattle.dp_top.proofs.dap.dap.Given as goal

abbrev pub ghosts-serve_gateway : goal.ghosts-serve_gateway
ghosts-serve_gateway g a = record { name = a.blank.name; parts = a.blank.parts }
