use Rattle.std.proofs.Common.{◌≡◌, ◌+◌, ◌*◌, ◌≤◌}
use Rattle.command_model.specs.UnmapList.{descriptors_in, blocks_named}
use Rattle.block_commands.proofs.Descriptors.{left}
use Rattle.block_commands.proofs.unmap.is_too_much.Given as goal

-- the blocks so far and those of the descriptors that are left are all
abbrev pub invariant-loop-i : goal.invariant-loop-i
invariant-loop-i l = record {
  sum : l.blocks + blocks_named (left l.count l.i l.taken) ≡ blocks_named (descriptors_in l.count l.taken);
  small : l.blocks ≤ 4294967295 * l.i;
}
