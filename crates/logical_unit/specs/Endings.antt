-- How a request ends, by what its unit's calls answered.
use Rattle.std.specs.Prelude.{ℕ, ◌≤◌, length, Option, Some, None, Result, Ok, Err, IfSome, ⊤}
use Rattle.foundation.specs.declared.NoMemory.{NoMemory}
use Rattle.command_model.specs.PlainReply.{PlainReply, plain_of}
use Rattle.command_model.specs.declared.reply.Reply.{Reply}
use Rattle.unit_model.specs.Endings.{Ending}
use Rattle.logical_unit.specs.declared.outcomes.Outcome.{Outcome}
use Rattle.logical_unit.specs.declared.outcomes.Outcome.TheVariants as outcome

-- own: the reply, where the receipt still has it
abbrev pub ending_of_reply : Option PlainReply → Ending
ending_of_reply None = Ending.Lost
ending_of_reply (Some r) = Ending.Replied r

abbrev pub ending_of : Outcome → Ending
ending_of (outcome.Reply receipt) = ending_of_reply receipt.reply
ending_of (outcome.Aborted why) = Ending.Aborted why
ending_of outcome.Busy = Ending.Busy
ending_of outcome.Unknown = Ending.Lost

-- own: by what came of its command, which ran or was refused memory
abbrev pub ending_of_run : Result PlainReply NoMemory → Ending
ending_of_run (Ok r) = Ending.Replied r
ending_of_run (Err e) = Ending.Busy

-- what came of a command, as a plain value
abbrev pub plain_run : Result Reply NoMemory → Result PlainReply NoMemory
plain_run (Ok r) = Ok (plain_of r)
plain_run (Err e) = Err e

-- own: the data of a reply are as many bytes as the command needs room for, or fewer
abbrev pub FitsNeed : ℕ → Outcome → Type 0
FitsNeed room (outcome.Reply receipt) = IfSome receipt.reply (λ r. length r.payload ≤ room)
FitsNeed room other = ⊤
