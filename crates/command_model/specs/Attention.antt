-- Which commands meet a pending unit attention, SAM-5 §5.14: INQUIRY and REPORT LUNS run and leave it
-- pending, also where their CDB is refused, and REQUEST SENSE returns it as data.
use Rattle.std.specs.Prelude.{ℕ, ◌==◌, Bool, true, false, not, List, [], ◌∷◌, Option, None, if◌then◌else◌}
use Rattle.std.specs.List.{list_any}
use Rattle.sense.specs.declared.Sense.{Sense}
use Rattle.cdb.specs.declared.commands.Command.{Command}
use Rattle.cdb.specs.declared.commands.Command.TheVariants.{RequestSense, Inquiry, ReportLuns, Bad}

-- the opcodes of REQUEST SENSE, INQUIRY and REPORT LUNS
abbrev pub attention_exempt : List ℕ
attention_exempt = 0x03 ∷ 0x12 ∷ 0xa0 ∷ []

-- whether a pending attention is taken by the command
abbrev pub takes : Command → Bool
takes (Inquiry what allocation) = false
takes (ReportLuns select allocation) = false
takes (Bad opcode) = not (list_any (λ known. known == opcode) attention_exempt)
takes _ = true

-- whether it is reported in place of the command's own answer
abbrev pub is_stopped : Command → Bool
is_stopped (RequestSense format allocation) = false
is_stopped command = takes command

-- the attention that is reported in place of the command's own answer, if any
abbrev pub met : Command → Option Sense → Option Sense
met command attention = if is_stopped command then attention else None
