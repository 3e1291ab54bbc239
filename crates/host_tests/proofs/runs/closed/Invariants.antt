use Rattle.host_tests.proofs.runs.closed.Given as goal

abbrev pub ghosts-closed_with-C-Ledger : goal.ghosts-closed_with-C-Ledger
ghosts-closed_with-C-Ledger g a = record { name = a.acts.name; parts = a.acts.parts }

abbrev pub ghosts-closed_with-D-Ledger : goal.ghosts-closed_with-D-Ledger
ghosts-closed_with-D-Ledger g a = record { name = a.receipts.name; parts = a.receipts.parts }
