use Rattle.shared_trace.proofs.tests.marks_of_all_parts_close.Given as goal

-- the book that was just opened
abbrev pub ghosts-first_wrong : goal.ghosts-first_wrong
ghosts-first_wrong g a = record { book = a.opened.seen.book }
