-- The conditions that the device reports, each by its sense key, additional sense code and
-- additional sense code qualifier, SPC-4 §4.5.
use Rattle.std.specs.Prelude.{ℕ, ◌^◌, Option, None, Some, nat_lt, if◌then◌else◌}
use Rattle.sense.specs.declared.Sense.{Sense}
use Rattle.sense.specs.declared.SenseFormat.TheVariants.{Fixed}

-- the condition of this key, code and qualifier, with no information, to be sent in the fixed format
abbrev pub condition : ℕ → ℕ → ℕ → Sense
condition key asc ascq = record { key = key; asc = asc; ascq = ascq; format = Fixed; information = None }

-- sense key 0h, NO SENSE
abbrev pub no_sense : Sense
no_sense = condition 0x0 0x00 0x00

-- a block's number as information, where 4 bytes can hold it: else the information isn't valid (SBC-3 §4.18)
abbrev pub block_information : ℕ → Option ℕ
block_information b = if nat_lt b (2 ^ 32) then Some b else None

-- sense key 3h, MEDIUM ERROR, of this code, with a block as its information
abbrev pub medium_error : ℕ → ℕ → Sense
medium_error asc b =
    record { key = 0x3; asc = asc; ascq = 0x00; format = Fixed; information = block_information b }

-- UNRECOVERED READ ERROR, with the block that can't be read
abbrev pub unrecovered_read_error : ℕ → Sense
unrecovered_read_error b = medium_error 0x11 b

-- WRITE ERROR, with the first block of what can't be written
abbrev pub write_error : ℕ → Sense
write_error b = medium_error 0x0c b

-- sense key 5h, ILLEGAL REQUEST
abbrev pub parameter_list_length_error : Sense
parameter_list_length_error = condition 0x5 0x1a 0x00

abbrev pub invalid_opcode : Sense
invalid_opcode = condition 0x5 0x20 0x00

abbrev pub lba_out_of_range : Sense
lba_out_of_range = condition 0x5 0x21 0x00

abbrev pub invalid_field_in_cdb : Sense
invalid_field_in_cdb = condition 0x5 0x24 0x00

abbrev pub logical_unit_not_supported : Sense
logical_unit_not_supported = condition 0x5 0x25 0x00

abbrev pub invalid_field_in_parameter_list : Sense
invalid_field_in_parameter_list = condition 0x5 0x26 0x00

abbrev pub saving_parameters_not_supported : Sense
saving_parameters_not_supported = condition 0x5 0x39 0x00

abbrev pub invalid_message_error : Sense
invalid_message_error = condition 0x5 0x49 0x00

-- sense key 6h, UNIT ATTENTION
abbrev pub unit_attention : ℕ → ℕ → Sense
unit_attention asc ascq = condition 0x6 asc ascq

-- sense key 7h, DATA PROTECT: WRITE PROTECTED, where a command would change the medium of a unit that is read-only (SBC-3
-- §4.12)
abbrev pub write_protected : Sense
write_protected = condition 0x7 0x27 0x00

-- sense key eh, MISCOMPARE: MISCOMPARE DURING VERIFY OPERATION, with the offset in bytes of the
-- first unequal byte as its information
abbrev pub miscompare : ℕ → Sense
miscompare offset = record { key = 0xe; asc = 0x1d; ascq = 0x00; format = Fixed; information = Some offset }
