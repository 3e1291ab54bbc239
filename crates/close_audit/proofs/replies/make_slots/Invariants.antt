use Rattle.std.proofs.Common.{◌≡◌, ℕ, ◌≤◌, slice_get, vec_len}
use Rattle.close_audit.specs.Keeping.{reply_in}
use Rattle.close_audit.proofs.replies.make_slots.Given as goal

abbrev pub invariant-loop-number : goal.invariant-loop-number
invariant-loop-number l =
    record {
      counted : l._number ≤ vec_len l.replies;
      same : (i : ℕ) → reply_in (slice_get l.replies.items i) ≡ reply_in (slice_get l.initial.replies.items i);
    }
