use Rattle.host_tests.proofs.together.serve_all.Given as goal

abbrev pub ghosts-serve_all_with-C-Ledger : goal.ghosts-serve_all_with-C-Ledger
ghosts-serve_all_with-C-Ledger g a = record { name = a.acts.name; parts = a.acts.parts }

abbrev pub ghosts-serve_all_with-D-Ledger : goal.ghosts-serve_all_with-D-Ledger
ghosts-serve_all_with-D-Ledger g a = record { name = a.receipts.name; parts = a.receipts.parts }
