use Rattle.std.proofs.Common.{◌≡◌, ◌*◌, ◌++◌, length, take, replicate}
use Rattle.std.specs.Int.{w32, to_be_bytes}
use Rattle.std.specs.List.{flat_map}
use Rattle.command_model.specs.Luns.{lun_entry}
use Rattle.block_commands.proofs.luns.lun_list.Given as goal

-- the entries so far stand behind the first 8 bytes
abbrev pub invariant-loop-lun : goal.invariant-loop-lun
invariant-loop-lun l =
    l.list.items ≡ to_be_bytes w32 (8 * length l.luns) ++ replicate 4 0 ++ flat_map lun_entry (take l.lun-index l.luns)
