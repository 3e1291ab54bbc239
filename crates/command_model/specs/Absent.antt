-- What a LUN that a target lacks is answered, SPC-4 §6.6.1, SAM-5 §5.11.
use Rattle.std.specs.Prelude.{ℕ, ◌==◌, List, [], ◌∷◌, take, Ok, Err, if◌then◌else◌}
use Rattle.std.specs.List.{list_any}
use Rattle.sense.specs.declared.Sense.{Sense}
use Rattle.sense.specs.Conditions.{invalid_field_in_cdb, logical_unit_not_supported}
use Rattle.sense.specs.Fixed.{fixed}
use Rattle.cdb.specs.declared.commands.Command.{Command}
use Rattle.cdb.specs.declared.commands.Command.TheVariants.{RequestSense, Inquiry, Bad}
use Rattle.cdb.specs.declared.commands.InquiryData.{InquiryData}
use Rattle.cdb.specs.declared.commands.InquiryData.TheVariants.{Standard}
use Rattle.command_model.specs.Data.{Answer}
use Rattle.command_model.specs.PlainReply.{PlainReply, replied}
use Rattle.command_model.specs.StandardData.{standard_data, no_device}

-- the opcodes of REQUEST SENSE and INQUIRY, the commands that such a LUN answers with data
abbrev pub answered_when_absent : List ℕ
answered_when_absent = 0x03 ∷ 0x12 ∷ []

-- the standard data with a byte 0 that says that there is no device; no page
abbrev pub absent_inquiry : InquiryData → ℕ → Answer
absent_inquiry Standard allocation = Ok (take allocation (standard_data no_device))
absent_inquiry _ allocation = Err invalid_field_in_cdb

-- a refused CDB
abbrev pub absent_bad : ℕ → Sense
absent_bad opcode =
    if list_any (λ known. known == opcode) answered_when_absent then invalid_field_in_cdb else
    logical_unit_not_supported

abbrev pub absent_answer : Command → Answer
absent_answer (RequestSense format allocation) = Ok (take allocation (fixed logical_unit_not_supported))
absent_answer (Inquiry what allocation) = absent_inquiry what allocation
absent_answer (Bad opcode) = Err (absent_bad opcode)
absent_answer _ = Err logical_unit_not_supported

abbrev pub absent_reply : Command → PlainReply
absent_reply command = replied command (absent_answer command)
