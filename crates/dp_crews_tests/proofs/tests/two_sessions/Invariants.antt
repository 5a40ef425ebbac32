use Rattle.dp_crews_tests.proofs.tests.two_sessions.Given as goal

abbrev pub ghosts-serve_all-A-Ledger : goal.ghosts-serve_all-A-Ledger
ghosts-serve_all-A-Ledger g a = record { name = a.blanks.0.name; parts = a.blanks.0.parts }

abbrev pub ghosts-serve_all-B-Ledger : goal.ghosts-serve_all-B-Ledger
ghosts-serve_all-B-Ledger g a = record { name = a.blanks.1.name; parts = a.blanks.1.parts }

abbrev pub ghosts-serve_all-C-Ledger : goal.ghosts-serve_all-C-Ledger
ghosts-serve_all-C-Ledger g a = record { name = a.blanks.2.name; parts = a.blanks.2.parts }
