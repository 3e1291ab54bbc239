use Rattle.host_tests.proofs.runs.is_refused.Given as goal

abbrev pub ghosts-is_refused_with-C-Ledger : goal.ghosts-is_refused_with-C-Ledger
ghosts-is_refused_with-C-Ledger g a = record { name = a.acts.name; parts = a.acts.parts }

abbrev pub ghosts-is_refused_with-D-Ledger : goal.ghosts-is_refused_with-D-Ledger
ghosts-is_refused_with-D-Ledger g a = record { name = a.receipts.name; parts = a.receipts.parts }
