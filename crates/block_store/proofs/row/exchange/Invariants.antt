use Rattle.std.proofs.Common.{◌≡◌, ℕ, ◌+◌, ◌-◌, vec_len, if◌then◌else◌}
use Rattle.block_store.specs.Blocks.{is_within}
use Rattle.block_store.specs.Kept.{row_kept}
use Rattle.block_store.proofs.row.exchange.Given as goal

-- the first pages are exchanged
abbrev pub invariant-loop-i : goal.invariant-loop-i
invariant-loop-i l = record {
  row : (p : ℕ) → row_kept l.row.items p ≡ (if is_within l.at l.i p then row_kept l.fn.others.items (l.from + (p - l.at)) else row_kept l.fn.row.items p);
  others : (p : ℕ) → row_kept l.others.items p ≡ (if is_within l.from l.i p then row_kept l.fn.row.items (l.at + (p - l.from)) else row_kept l.fn.others.items p);
  len : vec_len l.row ≡ vec_len l.fn.row;
  others_len : vec_len l.others ≡ vec_len l.fn.others;
}
