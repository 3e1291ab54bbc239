-- What a command is answered, as a plain value.
use Rattle.std.specs.Prelude.{ℕ, ◌+◌, List, [], length, Option, Some, None, Ok, Err}
use Rattle.std.specs.Option.{option_map}
use Rattle.sense.specs.declared.Sense.{Sense}
use Rattle.sense.specs.declared.SenseFormat.{SenseFormat}
use Rattle.sense.specs.Format.{in_format}
use Rattle.cdb.specs.declared.commands.Command.{Command}
use Rattle.cdb.specs.Need.{need_of}
use Rattle.command_model.specs.Data.{Answer}
use Rattle.command_model.specs.Statuses.{good, check_condition}
use Rattle.command_model.specs.declared.reply.Reply.{Reply}

-- the status, the sense data of a CHECK CONDITION, the data to the driver, and how many bytes were
-- moved both ways
pub record PlainReply : Type 0 where
  pub status : ℕ
  pub sense : Option Sense
  pub payload : List ℕ
  pub moved : ℕ

abbrev pub plain_of : Reply → PlainReply
plain_of r = record { status = r.status; sense = r.sense; payload = r.payload.items; moved = r.moved }

-- CHECK CONDITION with this sense: nothing is moved
abbrev pub refusal : Sense → PlainReply
refusal s = record { status = check_condition; sense = Some s; payload = []; moved = 0 }

-- GOOD with this data to the driver: it is moved, and what the command needs from the driver
abbrev pub success : Command → List ℕ → PlainReply
success command bytes =
    record { status = good; sense = None; payload = bytes; moved = (need_of command).out + length bytes }

-- the reply with its sense, if there is any, to be sent in a format
abbrev pub sent_in : SenseFormat → PlainReply → PlainReply
sent_in format r = record r { sense = option_map (in_format format) r.sense }

-- the reply where the command gives this data, or is refused with this sense
abbrev pub replied : Command → Answer → PlainReply
replied command (Ok bytes) = success command bytes
replied command (Err s) = refusal s
