-- What a command of the wide profile alone is answered in a unit of so many blocks that sends sense data in a format, with a
-- volatile write cache or without, and is read-only or not, by the data from the driver and the blocks.
use Rattle.std.specs.Prelude.{ℕ, Bool, true, false, ◌&&◌, nat_lt, List, [], ◌∷◌, ◌++◌, replicate, take, Ok, Err, if◌then◌else◌}
use Rattle.sense.specs.Conditions.{lba_out_of_range}
use Rattle.sense.specs.declared.SenseFormat.{SenseFormat}
use Rattle.cdb.specs.declared.wide_commands.WideCommand.{WideCommand}
use Rattle.cdb.specs.declared.wide_commands.WideCommand.TheVariants.{ModeSense, ModeSelect, ReportTaskManagement, ReportOperationCodes, GetLbaStatus, Verify, WriteZeros, OrWrite, FormatUnit, ReadDefectData}
use Rattle.block_store.specs.Blocks.{Blocks, run}
use Rattle.command_model.specs.Data.{Answer, done}
use Rattle.command_model.specs.Capacity.{is_in_range, within}
use Rattle.command_model.specs.Comparing.{to_verify, first_unequal, compared}
use Rattle.command_model.specs.Codes.{codes_answer}
use Rattle.command_model.specs.Defects.{defect_data}
use Rattle.command_model.specs.Formatting.{format_answer}
use Rattle.command_model.specs.Modes.{mode_answer}
use Rattle.command_model.specs.ModeLists.{select_answer}
use Rattle.command_model.specs.Provisioning.{lba_status}

-- the data of REPORT SUPPORTED TASK MANAGEMENT FUNCTIONS, SPC-4 §6.36: ATS, ATSS, CTSS, LURS, QTS; QTSS, ITNRS; with
-- REPD 12 more bytes, which give no timeouts
abbrev pub task_management_data : Bool → List ℕ
task_management_data extended =
    if extended then (0xdc ∷ 0x03 ∷ 0x00 ∷ 0x0c ∷ []) ++ replicate 12 0x00
    else 0xdc ∷ 0x03 ∷ 0x00 ∷ 0x00 ∷ []

abbrev pub wide_answer : SenseFormat → Bool → Bool → ℕ → WideCommand → List ℕ → Blocks → Answer
wide_answer format write_cache read_only capacity (ModeSense request) bytes blocks = mode_answer format write_cache read_only request capacity
wide_answer format write_cache read_only capacity (ModeSelect form list_length) bytes blocks = select_answer format write_cache form bytes
wide_answer format write_cache read_only capacity (ReportTaskManagement extended allocation) bytes blocks =
    Ok (take allocation (task_management_data extended))
wide_answer format write_cache read_only capacity (GetLbaStatus allocation lba) bytes blocks =
    if nat_lt lba capacity then Ok (take allocation (lba_status capacity lba blocks)) else Err lba_out_of_range
wide_answer format write_cache read_only capacity (ReportOperationCodes asked timeouts allocation) bytes blocks =
    codes_answer asked timeouts allocation
-- SBC-3 §5.29
wide_answer format write_cache read_only capacity (Verify sent count lba) bytes blocks =
    within capacity lba count (compared (first_unequal (run (to_verify sent bytes) 0 count) (run blocks lba count)))
-- SBC-3 §5.44
wide_answer format write_cache read_only capacity (WriteZeros count lba) bytes blocks = within capacity lba count done
-- SBC-3 §5.5
wide_answer format write_cache read_only capacity (OrWrite count lba) bytes blocks = within capacity lba count done
-- SBC-3 §5.3
wide_answer format write_cache read_only capacity (FormatUnit list) bytes blocks = format_answer list bytes
-- SBC-3 §5.17, §5.18
wide_answer format write_cache read_only capacity (ReadDefectData request) bytes blocks = Ok (take request.allocation (defect_data request))

-- whether it may be refused memory
abbrev pub wide_wants : ℕ → WideCommand → Bool
wide_wants capacity (ModeSense request) = true
wide_wants capacity (ModeSelect form list_length) = false
wide_wants capacity (ReportTaskManagement extended allocation) = nat_lt 0 allocation
wide_wants capacity (GetLbaStatus allocation lba) = nat_lt 0 allocation
wide_wants capacity (ReportOperationCodes asked timeouts allocation) = nat_lt 0 allocation
wide_wants capacity (Verify sent count lba) = nat_lt 0 count && is_in_range capacity lba count
wide_wants capacity (WriteZeros count lba) = false
wide_wants capacity (OrWrite count lba) = is_in_range capacity lba count
-- a disk whose pages come and go can't do it at once
wide_wants capacity (FormatUnit list) = true
wide_wants capacity (ReadDefectData request) = nat_lt 0 request.allocation
