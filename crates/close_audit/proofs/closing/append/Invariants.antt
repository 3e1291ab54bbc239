use Rattle.std.specs.Prelude.{◌≡◌, ◌++◌}
use Rattle.close_audit.specs.Keeping.{receipts_in}
use Rattle.close_audit.proofs.closing.append.Given as goal

abbrev pub invariant-loop-note : goal.invariant-loop-note
invariant-loop-note l = record {
  receipts : l.receipts.items ≡ l.fn.receipts.items ++ receipts_in l.fn.kept;
  notes : l.notes.items ++ l.note-iterator.rest.items ≡ l.fn.notes.items ++ l.fn.kept.notes.items;
}
