use Rattle.std.specs.Prelude.{◌≡◌, ◌+◌, ◌≤◌, vec_len}
use Rattle.std.specs.Vec.{vec_capacity}
use Rattle.close_audit.specs.Keeping.{receipts_kept}
use Rattle.workers.proofs.gathering.kept_of.Given as goal

abbrev pub invariant-loop-seat : goal.invariant-loop-seat
invariant-loop-seat g l = record {
  amount : l.share.amount ≡ l.fn.share.amount + receipts_kept l.all.items;
  parts : l.share.parts ≡ l.fn.share.parts + vec_len l.all;
  count : vec_len l.all + l.seat-iterator.rest.len ≡ vec_len l.fn.seats;
  room : vec_len l.fn.seats ≤ vec_capacity l.all;
}
