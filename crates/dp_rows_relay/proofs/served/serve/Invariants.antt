use Rattle.dp_rows_relay.proofs.served.serve.Given as goal

abbrev pub ghosts-serve_with-A-Ledger : goal.ghosts-serve_with-A-Ledger
ghosts-serve_with-A-Ledger g a = record { name = a.blanks.0.name; parts = a.blanks.0.parts }

abbrev pub ghosts-serve_with-B-Ledger : goal.ghosts-serve_with-B-Ledger
ghosts-serve_with-B-Ledger g a = record { name = a.blanks.1.name; parts = a.blanks.1.parts }

abbrev pub ghosts-serve_with-C-Ledger : goal.ghosts-serve_with-C-Ledger
ghosts-serve_with-C-Ledger g a = record { name = a.blanks.2.name; parts = a.blanks.2.parts }
