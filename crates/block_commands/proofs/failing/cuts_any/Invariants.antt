use Rattle.std.proofs.Common.{◌≡◌}
use Rattle.command_model.specs.Failing.{are_cut}
use Rattle.command_model.specs.UnmapList.{descriptors_in}
use Rattle.block_commands.proofs.Descriptors.{left}
use Rattle.block_commands.proofs.failing.cuts_any.Given as goal

-- those so far cut nothing of the page, so what is left decides
abbrev pub invariant-loop-i : goal.invariant-loop-i
invariant-loop-i l =
    are_cut l.capacity (left l.count l.i l.taken) l.page ≡ are_cut l.capacity (descriptors_in l.count l.taken) l.page
