use Rattle.host_tests.proofs.resetting.reset.Given as goal

abbrev pub ghosts-reset_with-C-Ledger : goal.ghosts-reset_with-C-Ledger
ghosts-reset_with-C-Ledger g a = record { name = a.acts.name; parts = a.acts.parts }

abbrev pub ghosts-reset_with-D-Ledger : goal.ghosts-reset_with-D-Ledger
ghosts-reset_with-D-Ledger g a = record { name = a.receipts.name; parts = a.receipts.parts }
