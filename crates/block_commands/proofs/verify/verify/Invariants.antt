use Rattle.std.proofs.Common.{◌≡◌, ◌≤◌, ◌-◌, ◌+◌, ◌*◌}
use Rattle.std.specs.Prelude.{vec_capacity}
use Rattle.block_store.specs.Blocks.{run}
use Rattle.command_model.specs.Comparing.{first_unequal, to_verify}
use Rattle.block_commands.proofs.Comparisons.{shifted}
use Rattle.block_commands.proofs.verify.verify.Given as goal

-- the blocks so far are equal to their data, so what is left decides
abbrev pub invariant-loop-index : goal.invariant-loop-index
invariant-loop-index g l = record {
  room : 512 ≤ vec_capacity l.held;
  equal : first_unequal (run (to_verify l.sent l.bytes) 0 l.blocks) (run (g.S.Store.block_at l.store) l.lba l.blocks)
      ≡ shifted (512 * l.index)
      (first_unequal (run (to_verify l.sent l.bytes) l.index (l.blocks - l.index))
      (run (g.S.Store.block_at l.store) (l.lba + l.index) (l.blocks - l.index)));
}
