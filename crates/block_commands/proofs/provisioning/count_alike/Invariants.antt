use Rattle.std.proofs.Common.{◌≡◌, ℕ, ◌+◌, ◌<◌, ◌≤◌, true}
use Rattle.std.specs.Prelude.{vec_capacity}
use Rattle.block_commands.proofs.Zeros.{is_alike}
use Rattle.block_commands.proofs.provisioning.count_alike.Given as goal

-- the blocks so far have the status of the first
abbrev pub invariant-loop-index : goal.invariant-loop-index
invariant-loop-index g l = record {
  room : 512 ≤ vec_capacity l.held;
  alike : (j : ℕ) → j < l.index → is_alike (g.S.Store.block_at l.store) l.lba (l.lba + j) ≡ true;
}
