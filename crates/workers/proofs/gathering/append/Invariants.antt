use Rattle.std.specs.Prelude.{◌≡◌, ◌++◌}
use Rattle.workers.proofs.gathering.append.Given as goal

abbrev pub invariant-loop-note : goal.invariant-loop-note
invariant-loop-note l = l.notes.items ++ l.note-iterator.rest.items ≡ l.fn.notes.items ++ l.fn.theirs.items
