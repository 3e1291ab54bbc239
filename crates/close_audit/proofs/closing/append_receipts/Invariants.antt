use Rattle.std.specs.Prelude.{◌≡◌, ◌+◌, ◌++◌, ◌≤◌, vec_len, length}
use Rattle.std.specs.Vec.{vec_capacity}
use Rattle.close_audit.specs.Keeping.{receipts_of, with_replies}
use Rattle.close_audit.proofs.closing.append_receipts.Given as goal

abbrev pub invariant-loop-receipt : goal.invariant-loop-receipt
invariant-loop-receipt l = record {
  len : vec_len l.receipts ≡ vec_len l.fn.receipts + l.place;
  count : l.place + l.receipt-iterator.rest.len ≡ vec_len l.fn.bare;
  room : vec_len l.fn.receipts + vec_len l.fn.bare ≤ vec_capacity l.receipts;
  joined : l.receipts.items ++ with_replies (length l.fn.bare.items) l.place l.receipt-iterator.rest.items l.replies.items
      ≡ l.fn.receipts.items ++ receipts_of l.fn.bare.items l.fn.replies.items;
}
