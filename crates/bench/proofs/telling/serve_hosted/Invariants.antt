use Rattle.bench.proofs.telling.serve_hosted.Given as goal

abbrev pub ghosts-serve_hosted_with-C-Ledger : goal.ghosts-serve_hosted_with-C-Ledger
ghosts-serve_hosted_with-C-Ledger g a = record { name = a.acts.name; parts = a.acts.parts }

abbrev pub ghosts-serve_hosted_with-D-Ledger : goal.ghosts-serve_hosted_with-D-Ledger
ghosts-serve_hosted_with-D-Ledger g a = record { name = a.receipts.name; parts = a.receipts.parts }
