-- The ledgers of the registry are those that the blanks stand for.
use Rattle.dp_top.proofs.proxy.proxy.Given as goal

abbrev pub ghosts-serve_and_print-A-Ledger : goal.ghosts-serve_and_print-A-Ledger
ghosts-serve_and_print-A-Ledger g a = record { name = a.blanks.0.name; parts = a.blanks.0.parts }

abbrev pub ghosts-serve_and_print-B-Ledger : goal.ghosts-serve_and_print-B-Ledger
ghosts-serve_and_print-B-Ledger g a = record { name = a.blanks.1.name; parts = a.blanks.1.parts }

abbrev pub ghosts-serve_and_print-C-Ledger : goal.ghosts-serve_and_print-C-Ledger
ghosts-serve_and_print-C-Ledger g a = record { name = a.blanks.2.name; parts = a.blanks.2.parts }
