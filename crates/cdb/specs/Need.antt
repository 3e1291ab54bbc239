-- How many bytes of data a command needs, from the driver and for it. A logical block has 512
-- bytes; an allocation length and a parameter list length count whole.
use Rattle.std.specs.Prelude.{ℕ, ◌*◌, min}
use Rattle.cdb.specs.declared.transfers.Transfer.{Transfer}
use Rattle.cdb.specs.declared.commands.Command.{Command}
use Rattle.cdb.specs.declared.commands.Command.TheVariants.{TestUnitReady, RequestSense, Read, Write, Inquiry, ReadCapacity10, ReadCapacity16, SynchronizeCache, WriteSame, Unmap, CompareAndWrite, ReportLuns, Wide, Bad, Unknown}
use Rattle.cdb.specs.declared.wide_commands.WideCommand.{WideCommand}
use Rattle.cdb.specs.declared.wide_commands.WideCommand.TheVariants.{ModeSense, ModeSelect, ReportTaskManagement, ReportOperationCodes, GetLbaStatus, Verify, WriteZeros, OrWrite, FormatUnit, ReadDefectData}
use Rattle.cdb.specs.declared.wide_commands.FormatList.{FormatList}
use Rattle.cdb.specs.declared.wide_commands.FormatList.TheVariants.{NoList, ShortHeader, LongHeader}
use Rattle.cdb.specs.declared.wide_commands.VerifyData.{VerifyData}
use Rattle.cdb.specs.declared.wide_commands.VerifyData.TheVariants.{EachBlock, OneBlock}

abbrev pub no_bytes : Transfer
no_bytes = record { out = 0; into = 0 }

-- from the driver
abbrev pub bytes_out : ℕ → Transfer
bytes_out n = record { out = n; into = 0 }

-- to the driver
abbrev pub bytes_in : ℕ → Transfer
bytes_in n = record { out = 0; into = n }

-- of a VERIFY of so many blocks: a block for each, or one for all; of none nothing is sent, SBC-3 §5.29
abbrev pub sent_blocks : VerifyData → ℕ → ℕ
sent_blocks EachBlock count = count
sent_blocks OneBlock count = min count 1

-- of a FORMAT UNIT: the header of its parameter list, SBC-3 §5.3.2
abbrev pub header_bytes : FormatList → ℕ
header_bytes NoList = 0
header_bytes ShortHeader = 4
header_bytes LongHeader = 8

-- of a command of the wide profile alone
abbrev pub wide_need : WideCommand → Transfer
wide_need (ModeSense request) = bytes_in request.allocation
wide_need (ModeSelect form list_length) = bytes_out list_length
wide_need (ReportTaskManagement extended allocation) = bytes_in allocation
wide_need (GetLbaStatus allocation lba) = bytes_in allocation
wide_need (ReportOperationCodes asked timeouts allocation) = bytes_in allocation
wide_need (Verify sent count lba) = bytes_out (512 * sent_blocks sent count)
wide_need (WriteZeros count lba) = no_bytes
wide_need (OrWrite count lba) = bytes_out (512 * count)
wide_need (FormatUnit list) = bytes_out (header_bytes list)
wide_need (ReadDefectData request) = bytes_in request.allocation

abbrev pub need_of : Command → Transfer
need_of TestUnitReady = no_bytes
need_of (RequestSense format allocation) = bytes_in allocation
need_of (Read lba blocks) = bytes_in (512 * blocks)
need_of (Write lba blocks) = bytes_out (512 * blocks)
need_of (Inquiry what allocation) = bytes_in allocation
need_of ReadCapacity10 = bytes_in 8
need_of (ReadCapacity16 allocation) = bytes_in allocation
need_of (SynchronizeCache lba blocks) = no_bytes
-- the one block that is written again and again
need_of (WriteSame lba blocks) = bytes_out 512
need_of (Unmap list_length) = bytes_out list_length
-- the blocks to compare with, then the blocks to write
need_of (CompareAndWrite lba blocks) = bytes_out (1024 * blocks)
need_of (ReportLuns select allocation) = bytes_in allocation
need_of (Wide command) = wide_need command
need_of (Bad opcode) = no_bytes
need_of Unknown = no_bytes
