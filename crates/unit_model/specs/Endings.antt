-- What answers a request that went to a unit, by what became of it (VIRTIO 1.2 §5.6.6.1).
use Rattle.std.specs.Prelude.{ℕ, List}
use Rattle.scsi_codec.specs.declared.responses.ResponseCode.{ResponseCode}
use Rattle.scsi_codec.specs.declared.responses.ResponseCode.TheVariants as code
use Rattle.command_model.specs.PlainReply.{PlainReply}
use Rattle.request_intake.specs.Answers.{answer_of_reply, failed, busy_reply, full_reply}
use Rattle.request_intake.specs.declared.answer.ChainLengths.{ChainLengths}
use Rattle.unit_model.specs.declared.reason.Reason.{Reason}
use Rattle.unit_model.specs.declared.reason.Reason.TheVariants as reason

-- own: its command ran and has a reply, its task was marked, 64 tasks were alive, memory was refused, or no task of it
-- could take the step
pub data Ending : Type 0 where
  Replied : PlainReply → Ending
  Aborted : Reason → Ending
  Full : Ending
  Busy : Ending
  Lost : Ending

abbrev pub code_of : Reason → ResponseCode
code_of reason.Aborted = code.Aborted
code_of reason.Reset = code.Reset

-- the bytes that answer it: response OK with a status and its data, or another response
abbrev pub answer_of : ChainLengths → Ending → List ℕ
answer_of n (Ending.Replied r) = answer_of_reply n r
answer_of n (Ending.Aborted why) = failed (code_of why)
answer_of n Ending.Full = answer_of_reply n full_reply
answer_of n Ending.Busy = answer_of_reply n busy_reply
answer_of n Ending.Lost = failed code.Failure
