use Rattle.host_tests.proofs.crossing.cross.Given as goal

abbrev pub ghosts-cross_with-C-Ledger : goal.ghosts-cross_with-C-Ledger
ghosts-cross_with-C-Ledger g a = record { name = a.acts.name; parts = a.acts.parts }

abbrev pub ghosts-cross_with-D-Ledger : goal.ghosts-cross_with-D-Ledger
ghosts-cross_with-D-Ledger g a = record { name = a.receipts.name; parts = a.receipts.parts }
