-- What a command leaves in each block.
use Rattle.std.specs.Prelude.{ℕ, ◌-◌, ◌==◌, Bool, true, false, List, map, Option, Some, None, if◌then◌else◌, unwrap_or, bit_or}
use Rattle.std.specs.List.{zip}
use Rattle.cdb.specs.declared.commands.Command.{Command}
use Rattle.cdb.specs.declared.commands.Command.TheVariants.{Write, WriteSame, Unmap, CompareAndWrite, Wide}
use Rattle.cdb.specs.declared.wide_commands.WideCommand.{WideCommand}
use Rattle.cdb.specs.declared.wide_commands.WideCommand.TheVariants.{WriteZeros, OrWrite, FormatUnit}
use Rattle.block_store.specs.Blocks.{Blocks, nth_block, zero_block, is_within}
use Rattle.command_model.specs.Statuses.{good}
use Rattle.command_model.specs.Comparing.{to_write}
use Rattle.command_model.specs.UnmapList.{descriptors, is_named}

-- these bytes, where the command covers the block
abbrev pub where_covered : Bool → List ℕ → Option (List ℕ)
where_covered covered bytes = if covered then Some bytes else None

-- the bitwise OR of two blocks, byte by byte
abbrev pub or_bytes : List ℕ → List ℕ → List ℕ
or_bytes old sent = map (λ pair. bit_or pair.0 pair.1) (zip old sent)

-- what a command of the wide profile alone gives block b, which has the old bytes, where it ends with GOOD, if it covers
-- b: WRITE SAME with NDOB zeros (SBC-3 §5.44), ORWRITE the OR of the block and its slice of the data (SBC-3 §5.5), FORMAT
-- UNIT zeros to each (SBC-3 §5.3)
abbrev pub wide_given : WideCommand → List ℕ → ℕ → List ℕ → Option (List ℕ)
wide_given (WriteZeros count lba) bytes b old = where_covered (is_within lba count b) zero_block
wide_given (OrWrite count lba) bytes b old = where_covered (is_within lba count b) (or_bytes old (nth_block bytes (b - lba)))
wide_given (FormatUnit list) bytes b old = Some zero_block
wide_given _ bytes b old = None

-- the same of a command with this data: WRITE its slice of the data (SBC-3 §5.33), WRITE SAME the one block of data
-- (SBC-3 §5.43), UNMAP zeros (SBC-3 §5.28), COMPARE AND WRITE its slice of the second half (SBC-3 §5.2)
abbrev pub given : Command → List ℕ → ℕ → List ℕ → Option (List ℕ)
given (Write lba count) bytes b old = where_covered (is_within lba count b) (nth_block bytes (b - lba))
given (WriteSame lba count) bytes b old = where_covered (is_within lba count b) bytes
given (Unmap list_length) bytes b old = where_covered (is_named (descriptors bytes) b) zero_block
given (CompareAndWrite lba count) bytes b old =
    where_covered (is_within lba count b) (nth_block (to_write count bytes) (b - lba))
given (Wide command) bytes b old = wide_given command bytes b old
given _ bytes b old = None

-- whether a command of the wide profile alone may change the medium, SBC-3 §4.12
abbrev pub changes_wide : WideCommand → Bool
changes_wide (WriteZeros count lba) = true
changes_wide (OrWrite count lba) = true
changes_wide (FormatUnit list) = true
changes_wide _ = false

-- whether a command may change the medium, whatever it names: a read-only unit refuses it
abbrev pub changes_medium : Command → Bool
changes_medium (Write lba count) = true
changes_medium (WriteSame lba count) = true
changes_medium (Unmap list_length) = true
changes_medium (CompareAndWrite lba count) = true
changes_medium (Wide command) = changes_wide command
changes_medium _ = false

-- block b once the command ended with this status, over the blocks before
abbrev pub block_after : Command → List ℕ → ℕ → Blocks → Blocks
block_after command bytes code blocks b =
    if code == good then unwrap_or (given command bytes b (blocks b)) (blocks b) else blocks b
