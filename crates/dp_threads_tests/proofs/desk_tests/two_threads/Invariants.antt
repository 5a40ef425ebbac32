use Rattle.dp_threads_tests.proofs.desk_tests.two_threads.Given as goal

abbrev pub ghosts-served_by_two-A-Ledger : goal.ghosts-served_by_two-A-Ledger
ghosts-served_by_two-A-Ledger g a = record { name = a.registers.name; parts = a.registers.parts }

abbrev pub ghosts-served_by_two-B-Ledger : goal.ghosts-served_by_two-B-Ledger
ghosts-served_by_two-B-Ledger g a = record { name = a.admits.name; parts = a.admits.parts }

abbrev pub ghosts-served_by_two-C-Ledger : goal.ghosts-served_by_two-C-Ledger
ghosts-served_by_two-C-Ledger g a = record { name = a.dismissals.name; parts = a.dismissals.parts }
