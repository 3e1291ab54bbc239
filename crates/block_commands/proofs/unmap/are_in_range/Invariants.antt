use Rattle.std.proofs.Common.{◌≡◌}
use Rattle.command_model.specs.UnmapList.{descriptors_in, are_in_range}
use Rattle.block_commands.proofs.Descriptors.{left}
use Rattle.block_commands.proofs.unmap.are_in_range.Given as goal

-- those so far are in range, so what is left decides
abbrev pub invariant-loop-i : goal.invariant-loop-i
invariant-loop-i l =
    are_in_range l.capacity (left l.count l.i l.taken) ≡ are_in_range l.capacity (descriptors_in l.count l.taken)
