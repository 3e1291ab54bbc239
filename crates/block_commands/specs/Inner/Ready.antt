-- Which blocks a command needs in memory, and which need room.
use Rattle.std.specs.Prelude.{ℕ, Bool, true, false, ◌&&◌, List, Ok, Err, IsTrue}
use Rattle.std.specs.List.{list_any}
use Rattle.cdb.specs.declared.commands.Command.{Command}
use Rattle.cdb.specs.declared.commands.Command.TheVariants.{Read, Write, WriteSame, Unmap, CompareAndWrite, Wide}
use Rattle.cdb.specs.declared.wide_commands.WideCommand.{WideCommand}
use Rattle.cdb.specs.declared.wide_commands.WideCommand.TheVariants.{GetLbaStatus, Verify, WriteZeros, OrWrite}
use Rattle.block_store.specs.Blocks.{is_within}
use Rattle.block_store.specs.Inner.Pages.{is_beside}
use Rattle.command_model.specs.Data.{Answer}
use Rattle.command_model.specs.Capacity.{is_in_range}
use Rattle.command_model.specs.Provisioning.{looked_at}
use Rattle.command_model.specs.Replies.{unmap_answer}
use Rattle.command_model.specs.UnmapList.{descriptors, is_named}

abbrev pub is_done : Answer → Bool
is_done (Ok bytes) = true
is_done (Err s) = false

-- whether block b is one of a range that lies below the capacity, or lies beside it in a page of it
abbrev pub is_inside : ℕ → ℕ → ℕ → ℕ → Bool
is_inside blocks lba count b = is_in_range blocks lba count && is_within lba count b

abbrev pub is_near_to : ℕ → ℕ → ℕ → ℕ → Bool
is_near_to blocks lba count b = is_in_range blocks lba count && is_beside lba count b

-- whether it lies beside what a descriptor of an UNMAP names
abbrev pub is_near_any : List (ℕ × ℕ) → ℕ → Bool
is_near_any taken b = list_any (λ d. is_beside d.0 d.1 b) taken

-- whether a command of the wide profile alone reads block b of a unit of so many blocks
abbrev pub is_read_wide : ℕ → WideCommand → ℕ → Bool
is_read_wide blocks (GetLbaStatus allocation lba) b = is_inside blocks lba (looked_at blocks lba) b
is_read_wide blocks (Verify sent count lba) b = is_inside blocks lba count b
is_read_wide blocks (OrWrite count lba) b = is_inside blocks lba count b
is_read_wide blocks _ b = false

-- whether it may write over the block
abbrev pub is_changed_wide : ℕ → WideCommand → ℕ → Bool
is_changed_wide blocks (WriteZeros count lba) b = is_inside blocks lba count b
is_changed_wide blocks (OrWrite count lba) b = is_inside blocks lba count b
is_changed_wide blocks _ b = false

-- whether the block lies in a page of which it may write over a part
abbrev pub is_near_wide : ℕ → WideCommand → ℕ → Bool
is_near_wide blocks (WriteZeros count lba) b = is_near_to blocks lba count b
is_near_wide blocks (OrWrite count lba) b = is_near_to blocks lba count b
is_near_wide blocks _ b = false

-- whether a command does
abbrev pub is_read : ℕ → Command → ℕ → Bool
is_read blocks (Read lba count) b = is_inside blocks lba count b
is_read blocks (CompareAndWrite lba count) b = is_inside blocks lba count b
is_read blocks (Wide command) b = is_read_wide blocks command b
is_read blocks _ b = false

-- whether a command with this data may write over it
abbrev pub is_changed : ℕ → Command → List ℕ → ℕ → Bool
is_changed blocks (Write lba count) bytes b = is_inside blocks lba count b
is_changed blocks (WriteSame lba count) bytes b = is_inside blocks lba count b
is_changed blocks (Unmap list_length) bytes b = is_done (unmap_answer blocks bytes) && is_named (descriptors bytes) b
is_changed blocks (CompareAndWrite lba count) bytes b = is_inside blocks lba count b
is_changed blocks (Wide command) bytes b = is_changed_wide blocks command b
is_changed blocks _ bytes b = false

-- whether it lies in a page of which the command may write over a part
abbrev pub is_near : ℕ → Command → List ℕ → ℕ → Bool
is_near blocks (Write lba count) bytes b = is_near_to blocks lba count b
is_near blocks (WriteSame lba count) bytes b = is_near_to blocks lba count b
is_near blocks (Unmap list_length) bytes b = is_done (unmap_answer blocks bytes) && is_near_any (descriptors bytes) b
is_near blocks (CompareAndWrite lba count) bytes b = is_near_to blocks lba count b
is_near blocks (Wide command) bytes b = is_near_wide blocks command b
is_near blocks _ bytes b = false

-- the command can run: what it reads, and what is beside what it writes, is in memory, and what it writes has room
pub record IsReady (held room : ℕ → Bool) (blocks : ℕ) (command : Command) (bytes : List ℕ) : Type 0 where
  pub read : (b : ℕ) → IsTrue (is_read blocks command b) → IsTrue (held b)
  pub changed : (b : ℕ) → IsTrue (is_changed blocks command bytes b) → IsTrue (room b)
  pub near : (b : ℕ) → IsTrue (is_near blocks command bytes b) → IsTrue (held b)
