use Rattle.dp_threads_tests.proofs.desk_tests.two_in_turn.Given as goal

abbrev pub ghosts-served_in_turn-A-Ledger : goal.ghosts-served_in_turn-A-Ledger
ghosts-served_in_turn-A-Ledger g a = record { name = a.registers.name; parts = a.registers.parts }

abbrev pub ghosts-served_in_turn-B-Ledger : goal.ghosts-served_in_turn-B-Ledger
ghosts-served_in_turn-B-Ledger g a = record { name = a.admits.name; parts = a.admits.parts }

abbrev pub ghosts-served_in_turn-C-Ledger : goal.ghosts-served_in_turn-C-Ledger
ghosts-served_in_turn-C-Ledger g a = record { name = a.dismissals.name; parts = a.dismissals.parts }
