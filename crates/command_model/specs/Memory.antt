-- Which commands may be refused memory: those with data to return or to write, unless a test that
-- comes before refuses them. An UNMAP writes no data, nor does a WRITE SAME with NDOB; no data is
-- returned for an allocation length of 0, but of a list of LUNs, and no block is read for a length of 0.
use Rattle.std.specs.Prelude.{ℕ, Bool, true, false, not, ◌&&◌, ◌||◌, nat_lt, is_some}
use Rattle.cdb.specs.declared.commands.Command.{Command}
use Rattle.cdb.specs.declared.commands.Command.TheVariants.{TestUnitReady, RequestSense, Read, Write, Inquiry, ReadCapacity10, ReadCapacity16, SynchronizeCache, WriteSame, Unmap, CompareAndWrite, ReportLuns, Wide, Bad, Unknown}
use Rattle.cdb.specs.Need.{need_of}
use Rattle.command_model.specs.Attention.{met}
use Rattle.command_model.specs.Capacity.{is_in_range}
use Rattle.command_model.specs.Facts.{Facts}
use Rattle.command_model.specs.Wide.{wide_wants}

-- where no attention stops the command, in a unit of so many blocks
abbrev pub wants : ℕ → Command → Bool
wants blocks TestUnitReady = false
wants blocks (RequestSense format allocation) = nat_lt 0 allocation
wants blocks (Read lba count) = nat_lt 0 count && is_in_range blocks lba count
wants blocks (Write lba count) = is_in_range blocks lba count
wants blocks (Inquiry what allocation) = nat_lt 0 allocation
wants blocks ReadCapacity10 = true
wants blocks (ReadCapacity16 allocation) = nat_lt 0 allocation
wants blocks (SynchronizeCache lba count) = false
wants blocks (WriteSame lba count) = is_in_range blocks lba count
wants blocks (Unmap list_length) = false
wants blocks (CompareAndWrite lba count) = is_in_range blocks lba count
wants blocks (ReportLuns select allocation) = true
wants blocks (Wide command) = wide_wants blocks command
wants blocks (Bad opcode) = false
wants blocks Unknown = false

abbrev pub may_want : Facts → Command → Bool
may_want facts command = not (is_some (met command facts.pending)) && wants facts.capacity command

-- own: whether a command may be refused memory: its own, or that of the reply that is kept
abbrev pub may_run_short : Bool → Facts → Command → Bool
may_run_short keeps facts command = may_want facts command || (keeps && nat_lt 0 (need_of command).into)
