-- What a command is answered, by what the unit is told of itself, the data from the driver and the
-- blocks before.
use Rattle.std.specs.Prelude.{ℕ, ◌==◌, Bool, ◌&&◌, ◌||◌, nat_lt, List, length, take, Option, Some, None, Ok, Err, if◌then◌else◌, unwrap_or}
use Rattle.sense.specs.declared.Sense.{Sense}
use Rattle.sense.specs.declared.SenseFormat.{SenseFormat}
use Rattle.sense.specs.Conditions.{no_sense, parameter_list_length_error, invalid_opcode, lba_out_of_range, invalid_field_in_cdb, invalid_field_in_parameter_list, write_protected}
use Rattle.sense.specs.Format.{bytes_in}
use Rattle.cdb.specs.declared.commands.Command.{Command}
use Rattle.cdb.specs.declared.commands.Command.TheVariants.{TestUnitReady, RequestSense, Read, Write, Inquiry, ReadCapacity10, ReadCapacity16, SynchronizeCache, WriteSame, Unmap, CompareAndWrite, ReportLuns, Wide, Bad, Unknown}
use Rattle.block_store.specs.Blocks.{Blocks, run}
use Rattle.command_model.specs.Data.{Answer, done}
use Rattle.command_model.specs.PlainReply.{PlainReply, refusal, replied, sent_in}
use Rattle.command_model.specs.Attention.{met}
use Rattle.command_model.specs.Capacity.{within, capacity_10, capacity_16}
use Rattle.command_model.specs.Comparing.{to_compare, first_unequal, compared}
use Rattle.command_model.specs.Effects.{changes_medium}
use Rattle.command_model.specs.Facts.{Facts}
use Rattle.command_model.specs.Identity.{told_by}
use Rattle.command_model.specs.declared.identity.Identity.{Identity}
use Rattle.command_model.specs.Inquiry.{inquiry_data}
use Rattle.command_model.specs.Luns.{listed, lun_list}
use Rattle.command_model.specs.UnmapList.{descriptors, blocks_named, are_in_range}
use Rattle.command_model.specs.Wide.{wide_answer}

-- UNMAP, SBC-3 §5.28, by its descriptors: at most 16, of at most 65,536 blocks in all
abbrev pub unmapped : ℕ → List (ℕ × ℕ) → Answer
unmapped blocks taken =
    if nat_lt 16 (length taken) || nat_lt 65536 (blocks_named taken) then Err invalid_field_in_parameter_list
    else (if are_in_range blocks taken then done else Err lba_out_of_range)

-- UNMAP, by its parameter list: none is no error, a cut header is one
abbrev pub unmap_answer : ℕ → List ℕ → Answer
unmap_answer blocks bytes =
    if length bytes == 0 then done
    else (if nat_lt (length bytes) 8 then Err parameter_list_length_error else unmapped blocks (descriptors bytes))

-- what the unit tells of what its configuration says of it
abbrev pub identity_told : Facts → Identity
identity_told facts = told_by facts.profile facts.identity

-- D_SENSE
abbrev pub format_told : Facts → SenseFormat
format_told facts = (identity_told facts).sense_format

-- WCE
abbrev pub cache_told : Facts → Bool
cache_told facts = (identity_told facts).write_cache

-- WP
abbrev pub read_only_told : Facts → Bool
read_only_told facts = (identity_told facts).read_only

-- whether the unit refuses a command since it is read-only, SBC-3 §4.12
abbrev pub is_protected : Facts → Command → Bool
is_protected facts command = changes_medium command && read_only_told facts

-- the answer of a command that nothing stops
abbrev pub answer_of : Facts → Command → List ℕ → Blocks → Answer
-- SPC-4 §6.47
answer_of facts TestUnitReady bytes blocks = done
-- SPC-4 §6.39: the oldest attention, or that there is nothing to report, in the format that DESC asks for
answer_of facts (RequestSense format allocation) bytes blocks =
    Ok (take allocation (bytes_in format (unwrap_or facts.pending no_sense)))
-- SBC-3 §5.11
answer_of facts (Read lba count) bytes blocks = within facts.capacity lba count (Ok (run blocks lba count))
-- SBC-3 §5.33
answer_of facts (Write lba count) bytes blocks = within facts.capacity lba count done
-- SPC-4 §6.6
answer_of facts (Inquiry what allocation) bytes blocks =
    Ok (take allocation (inquiry_data facts.profile (identity_told facts) what facts.target facts.lun))
-- SBC-3 §5.15, §5.16
answer_of facts ReadCapacity10 bytes blocks = Ok (capacity_10 facts.capacity)
answer_of facts (ReadCapacity16 allocation) bytes blocks =
    Ok (take allocation (capacity_16 facts.capacity (identity_told facts).physical_exponent))
-- SBC-3 §5.26: a count of 0, to the end, is in range where the address is at most the capacity
answer_of facts (SynchronizeCache lba count) bytes blocks = within facts.capacity lba count done
-- SBC-3 §5.43
answer_of facts (WriteSame lba count) bytes blocks = within facts.capacity lba count done
answer_of facts (Unmap list_length) bytes blocks = unmap_answer facts.capacity bytes
answer_of facts (CompareAndWrite lba count) bytes blocks =
    within facts.capacity lba count (compared (first_unequal (to_compare count bytes) (run blocks lba count)))
-- SPC-4 §6.33
answer_of facts (ReportLuns select allocation) bytes blocks =
    Ok (take allocation (lun_list (listed select facts.luns)))
answer_of facts (Wide command) bytes blocks =
    wide_answer (format_told facts) (cache_told facts) (read_only_told facts) facts.capacity command bytes blocks
-- SPC-4 §4.5
answer_of facts (Bad opcode) bytes blocks = Err invalid_field_in_cdb
answer_of facts Unknown bytes blocks = Err invalid_opcode

-- the answer of a command that no attention stops: a protected medium is told before the range or the data are looked at
abbrev pub permitted : Facts → Command → Answer → Answer
permitted facts command answer = if is_protected facts command then Err write_protected else answer

-- the reply where this attention is reported in place of the answer, SAM-5 §5.14
abbrev pub reported : Option Sense → PlainReply → PlainReply
reported None reply = reply
reported (Some attention) reply = refusal attention

-- the reply, its sense in the format that the unit tells, SPC-4 §7.5.8
abbrev pub reply_of : Facts → Command → List ℕ → Blocks → PlainReply
reply_of facts command bytes blocks =
    sent_in (format_told facts)
    (reported (met command facts.pending)
    (replied command (permitted facts command (answer_of facts command bytes blocks))))
