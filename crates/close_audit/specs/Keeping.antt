-- What a seat keeps of the requests that it answered.
use Rattle.std.specs.Prelude.{ℕ, ◌≡◌, ◌≢◌, ◌+◌, ◌%◌, ◌<◌, nat_lt, nat_le, Bool, false, List, [], ◌∷◌, ◌++◌, length, slice_get, Option, Some, None, if◌then◌else◌}
use Rattle.std.specs.List.{sum_by, flat_map}
use Rattle.std.specs.Option.{option_map}
use Rattle.command_model.specs.PlainReply.{PlainReply, plain_of}
use Rattle.command_model.specs.declared.reply.Reply.{Reply}
use Rattle.unit_model.specs.Receipts.{Receipt, longest_kept}
use Rattle.phases.specs.Notes.{PlainNote}
use Rattle.phases.specs.declared.receipt_or_note.ReceiptOrNote.{ReceiptOrNote}
use Rattle.phases.specs.declared.receipt_or_note.ReceiptOrNote.TheVariants as given
use Rattle.close_audit.specs.Rooms.{replies_kept}
use Rattle.close_audit.specs.declared.kept.Kept.{Kept}

-- own: the reply that stands in a slot, if there is one
abbrev pub reply_in : Option (Option Reply) → Option PlainReply
reply_in None = None
reply_in (Some None) = None
reply_in (Some (Some r)) = Some (plain_of r)

-- own: the reply of the receipt at a place, of so many: one of the latest, in the slot of its place
abbrev pub reply_of : ℕ → ℕ → List (Option Reply) → Option PlainReply
reply_of count place replies =
    if nat_le count (place + replies_kept) then reply_in (slice_get replies (place % replies_kept)) else None

-- own: receipts from a place on, with the replies that are kept
abbrev pub with_replies : ℕ → ℕ → List Receipt → List (Option Reply) → List Receipt
with_replies count place [] replies = []
with_replies count place (c ∷ bare) replies =
    record c { reply = reply_of count place replies } ∷ with_replies count (place + 1) bare replies

abbrev pub receipts_of : List Receipt → List (Option Reply) → List Receipt
receipts_of bare replies = with_replies (length bare) 0 bare replies

abbrev pub receipts_in : Kept → List Receipt
receipts_in k = receipts_of k.receipts.items k.replies.items

-- own: all that seats kept, seat by seat, and of each seat in its order: the receipts, with the replies that are kept,
-- and the notes
abbrev pub receipts_of_all : List Kept → List Receipt
receipts_of_all all = flat_map receipts_in all

abbrev pub notes_of_all : List Kept → List PlainNote
notes_of_all all = flat_map (λ (k : Kept). k.notes.items) all

-- own: how many receipts seats kept
abbrev pub receipts_kept : List Kept → ℕ
receipts_kept all = sum_by (λ (k : Kept). length (receipts_in k)) all

-- own: the receipt of a Commit whose reply was let go
abbrev pub without_reply : Receipt → Receipt
without_reply c = record c { reply = None }

-- own: whether a receipt has a reply, with longer data than what a unit keeps
abbrev pub has_long : Option PlainReply → Bool
has_long None = false
has_long (Some r) = nat_lt longest_kept (length r.payload)

-- own: a receipt, without its reply where that is too long
abbrev pub shortened : Receipt → Receipt
shortened c = if has_long c.reply then without_reply c else c

-- own: a receipt came: it stands last, without its reply where that is too long; the one that came as many
-- before it as replies are kept has none any more; and all others stand as they were
pub record KeepsReceipt (old : List Receipt) (c : Receipt) (new : List Receipt) : Type 0 where
  pub one_more : length new ≡ length old + 1
  pub last : slice_get new (length old) ≡ Some (shortened c)
  pub oldest : (k : ℕ) → k + replies_kept ≡ length old → slice_get new k ≡ option_map without_reply (slice_get old k)
  pub others : (k : ℕ) → k < length old → (k + replies_kept) ≢ length old → slice_get new k ≡ slice_get old k

-- own: what a request left is kept
abbrev pub KeepsGiven : Kept → ReceiptOrNote → Kept → Type 0
KeepsGiven old (given.Receipt c) new =
    KeepsReceipt (receipts_in old) c (receipts_in new) × (new.notes.items ≡ old.notes.items)
KeepsGiven old (given.Note n) new =
    (receipts_in new ≡ receipts_in old) × (new.notes.items ≡ old.notes.items ++ n ∷ [])
