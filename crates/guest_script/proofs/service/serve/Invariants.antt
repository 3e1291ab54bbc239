use Rattle.guest_script.proofs.service.serve.Given as goal

abbrev pub ghosts-run_lines-C-Ledger : goal.ghosts-run_lines-C-Ledger
ghosts-run_lines-C-Ledger g a = record { name = a.acts.name; parts = a.acts.parts }

abbrev pub ghosts-run_lines-D-Ledger : goal.ghosts-run_lines-D-Ledger
ghosts-run_lines-D-Ledger g a = record { name = a.receipts.name; parts = a.receipts.parts }
