-- Which commands may have to wait, where the pages of a disk come and go.
use Rattle.std.specs.Prelude.{ℕ, Bool, true, false, ◌&&◌, ◌||◌}
use Rattle.cdb.specs.declared.commands.Command.{Command}
use Rattle.cdb.specs.declared.commands.Command.TheVariants.{Read, Write, WriteSame, Unmap, CompareAndWrite, SynchronizeCache, Wide}
use Rattle.cdb.specs.declared.wide_commands.WideCommand.{WideCommand}
use Rattle.cdb.specs.declared.wide_commands.WideCommand.TheVariants.{GetLbaStatus, Verify, WriteZeros, OrWrite}
use Rattle.command_model.specs.Capacity.{is_in_range}
use Rattle.command_model.specs.Provisioning.{looked_at}

-- whether a command of the wide profile alone needs blocks of a unit of so many
abbrev pub needs_wide : ℕ → WideCommand → Bool
needs_wide blocks (GetLbaStatus allocation lba) = is_in_range blocks lba (looked_at blocks lba)
needs_wide blocks (Verify sent count lba) = is_in_range blocks lba count
needs_wide blocks (WriteZeros count lba) = is_in_range blocks lba count
needs_wide blocks (OrWrite count lba) = is_in_range blocks lba count
needs_wide blocks _ = false

-- whether a command needs blocks: it names some that lie below the capacity; an UNMAP may
abbrev pub needs : ℕ → Command → Bool
needs blocks (Read lba count) = is_in_range blocks lba count
needs blocks (Write lba count) = is_in_range blocks lba count
needs blocks (WriteSame lba count) = is_in_range blocks lba count
needs blocks (Unmap list_length) = true
needs blocks (CompareAndWrite lba count) = is_in_range blocks lba count
needs blocks (Wide command) = needs_wide blocks command
needs blocks _ = false

-- whether a command ends only once the medium has what was written before it: SYNCHRONIZE CACHE (SBC-3 §5.26, §5.27), as
-- which PRE-FETCH is decoded too
abbrev pub is_flush : Command → Bool
is_flush (SynchronizeCache lba blocks) = true
is_flush _ = false

-- whether a command reads blocks for the driver: READ
abbrev pub is_read : Command → Bool
is_read (Read lba count) = true
is_read _ = false

-- whether a command that asks for the medium itself, or doesn't, ends only once the medium has what was written before it: SYNCHRONIZE
-- CACHE does, and READ that asks for the medium (FUA, SBC-3 §5.11), of which the device server writes what a volatile cache has first
abbrev pub flushes : Bool → Command → Bool
flushes asks_medium command = is_flush command || (asks_medium && is_read command)

-- own: whether a command waits for blocks of a disk of so many, or for what was changed before it
abbrev pub waits_at : ℕ → Bool → Command → Bool
waits_at blocks asks_medium command = needs blocks command || flushes asks_medium command
