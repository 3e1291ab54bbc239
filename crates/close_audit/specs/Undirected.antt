-- That what a seat keeps is no note Direct: these stay with their queues.
use Rattle.std.specs.Prelude.{ℕ, ◌≡◌, List, Some, slice_get, ⊤}
use Rattle.phases.specs.Notes.{PlainNote}
use Rattle.phases.specs.declared.note.Cause.TheVariants as cause
use Rattle.phases.specs.declared.receipt_or_note.ReceiptOrNote.{ReceiptOrNote}
use Rattle.phases.specs.declared.receipt_or_note.ReceiptOrNote.TheVariants as given

-- own: what a request left is a receipt, or another note
abbrev pub IsUndirected : ReceiptOrNote → Type 0
IsUndirected (given.Receipt c) = ⊤
IsUndirected (given.Note n) = n.cause ≡ cause.Direct → ⊥

-- own: none of these notes is Direct
abbrev pub AreUndirected : List PlainNote → Type 0
AreUndirected notes = (k : ℕ) (n : PlainNote) → slice_get notes k ≡ Some n → n.cause ≡ cause.Direct → ⊥
