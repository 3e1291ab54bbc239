use Rattle.std.specs.Prelude.{◌≡◌, ◌++◌}
use Rattle.close_audit.specs.Keeping.{receipts_of_all, notes_of_all}
use Rattle.close_audit.proofs.closing.together.Given as goal

abbrev pub invariant-loop-one : goal.invariant-loop-one
invariant-loop-one l = record {
  receipts : l.receipts.items ++ receipts_of_all l.one-iterator.rest.items ≡ receipts_of_all l.fn.kept.items;
  notes : l.notes.items ++ notes_of_all l.one-iterator.rest.items ≡ l.fn.notes.items ++ notes_of_all l.fn.kept.items;
}
